use Rattle.std.proofs.Common.{◌≡◌, map, length}
use Rattle.std.specs.Vec.{vec_items}
use Rattle.county_problem.specs.ProblemValue.{problem_of}
use Rattle.certificate_data.specs.Round.{Round}
use Rattle.certificate_laws.specs.State.{State}
use Rattle.certificate_laws.specs.Search.{AreCountLines}
use Rattle.certificate_data.specs.TreeValue.{allowance_of}
use Rattle.bound_proofs.specs.CountLeaves.{AreListsFrom}
use Rattle.bound_proofs.proofs.lines.count_lines.Given as goal

abbrev pub invariant-loop-groups : goal.invariant-loop-groups
invariant-loop-groups g l = record {
  size : l.size ≡ l.groups-index;
  count : length l.lines.items ≡ l.groups-index;
  lines : (round : Round) (s : State) → round.order ≡ l.ordered.order → AreListsFrom g.C.CountySet.test l.ordered.order (problem_of l.ordered.problem) round s 1 (map vec_items l.lists)
      → AreCountLines round.format (problem_of l.ordered.problem) s 1 (map allowance_of l.lines.items);
}
