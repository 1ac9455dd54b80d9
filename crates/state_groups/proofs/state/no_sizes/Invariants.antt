use Rattle.std.proofs.Common.{◌≡◌, ℕ, length, get_or}
use Rattle.state_groups.proofs.state.no_sizes.Given as goal

abbrev pub invariant-loop : goal.invariant-loop
invariant-loop l = (length l.least.items ≡ l.counter) × ((x : ℕ) → get_or l.least.items x 0 ≡ 0)
