use Rattle.std.proofs.Common.{◌≡◌, ◌++◌, map, drop}
use Rattle.place_sets.proofs.set_lists.copy_sets.Given as goal

abbrev pub invariant-loop-set : goal.invariant-loop-set
invariant-loop-set g l = let test = g.C.CountySet.test in map test l.copies.items ++ map test (drop l.set-index l.sets) ≡ map test l.sets
