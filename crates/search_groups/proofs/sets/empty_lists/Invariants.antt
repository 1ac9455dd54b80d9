use Rattle.std.proofs.Common.{◌≡◌, length, All}
use Rattle.search_groups.proofs.sets.empty_lists.Given as goal

abbrev pub invariant-loop-place : goal.invariant-loop-place
invariant-loop-place l = record {
  count : length l.lists.items ≡ l._place;
  empty : All (λ v. length v.items ≡ 0) l.lists.items;
}
