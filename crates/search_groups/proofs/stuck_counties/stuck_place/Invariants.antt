use Rattle.std.proofs.Common.{ℕ, ◌-◌, ◌≤◌, ◌<◌, length}
use Rattle.county_problem.specs.OrderedValue.{problem_at}
use Rattle.state_groups.specs.StateValue.{state_of}
use Rattle.certificate_laws.specs.Leaves.{IsStuck}
use Rattle.search_groups.proofs.stuck_counties.stuck_place.Given as goal

abbrev pub invariant-loop-place : goal.invariant-loop-place
invariant-loop-place g l = record {
  none : (x : ℕ) → x < l.from → IsStuck (problem_at l.graph.ordered.now) (state_of g.C.CountySet.test l.state) x → ⊥;
  within : l.from ≤ length l.graph.ordered.now.order;
}

abbrev pub decreases-loop-place : goal.decreases-loop-place
decreases-loop-place g l = length l.graph.ordered.now.order - l.from
