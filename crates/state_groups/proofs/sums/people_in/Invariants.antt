use Rattle.std.proofs.Common.{◌≡◌, ◌-◌, ◌≤◌, length}
use Rattle.place_sets.specs.PlaceSets.{places_of}
use Rattle.grouping_laws.specs.Problem.{people_of}
use Rattle.county_problem.specs.OrderedValue.{problem_at}
use Rattle.state_groups.proofs.sums.people_in.Given as goal

abbrev pub invariant-loop-place : goal.invariant-loop-place
invariant-loop-place g l = record {
  sum : l.people ≡ people_of (problem_at l.ordered) (places_of l.from (g.C.CountySet.test l.set));
  within : l.from ≤ length l.ordered.order;
}

abbrev pub decreases-loop-place : goal.decreases-loop-place
decreases-loop-place g l = length l.ordered.order - l.from
