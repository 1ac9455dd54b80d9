use Rattle.std.proofs.Common.{◌≡◌, ◌<◌, length, All}
use Rattle.search_groups.proofs.sets.having_lists.Given as goal

abbrev pub invariant-loop-index : goal.invariant-loop-index
invariant-loop-index g l = record {
  count : length l.lists.items ≡ l.places;
  below : All (λ v. All (λ i. i < l.index) v.items) l.lists.items;
}
