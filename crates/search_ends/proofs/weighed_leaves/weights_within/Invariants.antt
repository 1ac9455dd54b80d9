use Rattle.std.proofs.Common.{◌≡◌, ℕ, ◌≤◌, ◌<◌, cond, length, get_or, All}
use Rattle.search_ends.proofs.weighed_leaves.weights_within.Given as goal

abbrev pub invariant-loop-place : goal.invariant-loop-place
invariant-loop-place g l = record {
  count : length l.table.items ≡ l.place;
  range : All (λ w. w ≤ 1000000) l.table.items;
  each : (i : ℕ) → i < l.place → get_or l.table.items i 0 ≡ cond (g.C.CountySet.test l.region i) (get_or l.weights i 0) 0;
}
