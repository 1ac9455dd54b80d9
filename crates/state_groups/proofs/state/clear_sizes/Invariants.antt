use Rattle.std.proofs.Common.{◌≡◌, ℕ, ◌&&◌, ◌<◌, cond, nat_lt, length, get_or}
use Rattle.state_groups.proofs.state.clear_sizes.Given as goal

abbrev pub invariant-loop-place : goal.invariant-loop-place
invariant-loop-place g l =
    (length l.least.items ≡ length l.fn.least.items)
    × ((x : ℕ) → x < length l.fn.least.items → get_or l.least.items x 0 ≡ cond (nat_lt x l.place && g.C.CountySet.test l.set x) 0 (get_or l.fn.least.items x 0))
