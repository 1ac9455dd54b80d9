use Rattle.std.proofs.Common.{◌≡◌, true, length}
use Rattle.place_sets.specs.PlaceSets.{places_of}
use Rattle.connected_sets.specs.Graphs.{problem_at}
use Rattle.connected_sets.proofs.Filling.{IsFilled}
use Rattle.connected_sets.proofs.part.part_around.Given as goal

abbrev pub invariant-loop-next : goal.invariant-loop-next
invariant-loop-next g l = record {
  filled : IsFilled (problem_at l.graph.ordered.now) (length l.graph.ordered.now.order) (g.C.CountySet.test l.region) (g.C.CountySet.test l.part) (g.C.CountySet.test l.rest) (g.C.CountySet.test l.front);
  around : g.C.CountySet.test l.part l.place ≡ true;
}

abbrev pub decreases-loop-next : goal.decreases-loop-next
decreases-loop-next g l = length (places_of (length l.graph.ordered.now.order) (g.C.CountySet.test l.rest))
