use Rattle.std.proofs.Common.{◌≡◌, ℕ, ◌<◌}
use Rattle.county_problem.specs.OrderedValue.{code_at}
use Rattle.county_problem.proofs.ordered_counties.Ordered.place_of.Given as goal

abbrev pub invariant-loop-place : goal.invariant-loop-place
invariant-loop-place l = (k : ℕ) → k < l.place → code_at l.self.order k ≡ l.code → ⊥
