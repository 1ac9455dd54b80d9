use Rattle.std.proofs.Common.{◌≡◌, ℕ, ◌&&◌, not, nat_lt, get_or}
use Rattle.state_groups.proofs.fitting.open_places.Given as goal

abbrev pub invariant-loop-place : goal.invariant-loop-place
invariant-loop-place g l = (x : ℕ) → g.C.CountySet.test l.open x ≡ (g.C.CountySet.test l.state.rest x && not (nat_lt x l.place && nat_lt l.size (get_or l.state.least.items x 0)))
