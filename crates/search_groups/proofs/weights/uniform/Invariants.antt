use Rattle.std.proofs.Common.{◌≡◌, ◌≤◌, length, All}
use Rattle.search_groups.proofs.weights.uniform.Given as goal

abbrev pub invariant-loop-place : goal.invariant-loop-place
invariant-loop-place g l = record {
  count : length l.weights.items ≡ l.place;
  range : All (λ w. w ≤ 1000000) l.weights.items;
}
