use Rattle.std.proofs.Common.{◌≡◌, ℕ, true, ◌-◌, ◌≤◌, ◌<◌, length, get_or}
use Rattle.state_groups.proofs.stuck_parts.asks_more.Given as goal

abbrev pub invariant-loop-place : goal.invariant-loop-place
invariant-loop-place g l = record {
  none : (x : ℕ) → x < l.from → g.C.CountySet.test l.set x ≡ true → get_or l.state.least.items x 0 ≤ l.size;
  within : l.from ≤ length l.state.least.items;
}

abbrev pub decreases-loop-place : goal.decreases-loop-place
decreases-loop-place g l = length l.state.least.items - l.from
