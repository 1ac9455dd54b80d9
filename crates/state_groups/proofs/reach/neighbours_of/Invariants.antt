use Rattle.std.proofs.Common.{◌≡◌, ℕ, ◌-◌, ◌≤◌, ◌<◌, true, length}
use Rattle.county_problem.specs.OrderedValue.{problem_at}
use Rattle.state_groups.proofs.reach.neighbours_of.Given as goal

abbrev pub invariant-loop-place : goal.invariant-loop-place
invariant-loop-place g l = record {
  within : l.from ≤ g.C.CountySet.PLACES;
  all : (x y : ℕ) → g.C.CountySet.test l.set x ≡ true → x < l.from → y < length l.graph.ordered.now.order → (problem_at l.graph.ordered.now).adjacent x y ≡ true → g.C.CountySet.test l.found y ≡ true;
}

abbrev pub decreases-loop-place : goal.decreases-loop-place
decreases-loop-place g l = g.C.CountySet.PLACES - l.from
