use Rattle.std.proofs.Common.{◌≡◌, ℕ, nat_lt}
use Rattle.state_groups.proofs.state.all_places.Given as goal

abbrev pub invariant-loop-place : goal.invariant-loop-place
invariant-loop-place g l = (x : ℕ) → g.C.CountySet.test l.all x ≡ nat_lt x l.place
