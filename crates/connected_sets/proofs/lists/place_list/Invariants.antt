use Rattle.std.proofs.Common.{◌≡◌}
use Rattle.place_sets.specs.PlaceSets.{places_of}
use Rattle.connected_sets.proofs.lists.place_list.Given as goal

abbrev pub invariant-loop-place : goal.invariant-loop-place
invariant-loop-place g l = l.list.items ≡ places_of l.place (g.C.CountySet.test l.set)
