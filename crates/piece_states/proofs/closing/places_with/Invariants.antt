use Rattle.std.proofs.Common.{◌≡◌, ℕ, ◌&&◌, nat_lt}
use Rattle.grouping_laws.specs.Sets.{contains}
use Rattle.county_problem.specs.OrderedValue.{code_at}
use Rattle.piece_states.proofs.closing.places_with.Given as goal

abbrev pub invariant-loop-place : goal.invariant-loop-place
invariant-loop-place g l = (x : ℕ) → g.C.CountySet.test l.set x ≡ (nat_lt x l.place && contains l.codes (code_at l.ordered.order x))
