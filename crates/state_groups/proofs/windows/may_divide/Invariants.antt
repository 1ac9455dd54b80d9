use Rattle.std.proofs.Common.{ℕ, ◌-◌, ◌≤◌, ◌<◌, get_or}
use Rattle.state_groups.specs.People.{HasSeatWindow}
use Rattle.state_groups.proofs.windows.may_divide.Given as goal

abbrev pub invariant-loop-window : goal.invariant-loop-window
invariant-loop-window l = (k : ℕ) (d : ℕ × ℕ) → k < l.window-index → (people : ℕ) → l.least ≤ people → people ≤ l.greatest → (get_or l.windows k d).0 ≤ people → people ≤ (get_or l.windows k d).1 → HasSeatWindow l.windows (l.all - people) → ⊥
