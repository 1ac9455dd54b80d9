use Rattle.std.proofs.Common.{length}
use Rattle.place_sets.specs.PlaceSets.{places_of}
use Rattle.connected_sets.proofs.growing.+grow.Given as goal

abbrev pub decreases-grow : goal.decreases-grow
decreases-grow g l = length (places_of (length l.input.now.graph.now.ordered.now.order) (g.C.CountySet.test l.growth.free))
