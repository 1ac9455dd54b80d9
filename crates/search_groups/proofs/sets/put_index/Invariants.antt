use Rattle.std.proofs.Common.{◌≡◌, ◌+◌, ◌<◌, ◌-◌, length, All}
use Rattle.search_groups.proofs.sets.put_index.Given as goal

abbrev pub invariant-loop-place : goal.invariant-loop-place
invariant-loop-place g l = record {
  count : length l.lists ≡ length l.fn.lists;
  below : All (λ v. All (λ i. i < l.index + 1) v.items) l.lists;
}

abbrev pub decreases-loop-place : goal.decreases-loop-place
decreases-loop-place g l = length l.fn.lists - l.from
