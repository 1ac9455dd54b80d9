use Rattle.std.proofs.Common.{◌≡◌, map, length}
use Rattle.std.specs.Vec.{vec_items}
use Rattle.county_problem.specs.ProblemValue.{problem_of}
use Rattle.certificate_data.specs.RoundValue.{round_of}
use Rattle.state_groups.specs.PlacedValues.{state_at}
use Rattle.bound_proofs.specs.CountLeaves.{AreListsFrom}
use Rattle.worked_calls.proofs.certificates.leaves.groups_by_size.Given as goal

abbrev pub invariant-loop-below : goal.invariant-loop-below
invariant-loop-below g l = record {
  count : length l.lists.items ≡ l.below;
  lists : AreListsFrom g.C.CountySet.test l.graph.ordered.now.order (problem_of l.graph.ordered.now.problem) (round_of l.round) (state_at l.graph.ordered.now.order g.C.CountySet.test l.state) 1 (map vec_items l.lists.items);
}
