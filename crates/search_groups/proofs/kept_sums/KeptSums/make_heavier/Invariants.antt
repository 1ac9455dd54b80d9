use Rattle.std.proofs.Common.{◌≡◌, ◌-◌, length}
use Rattle.search_groups.proofs.kept_sums.KeptSums.make_heavier.Given as goal

abbrev pub invariant-loop-place : goal.invariant-loop-place
invariant-loop-place g l = record {
  count : length l.self.weights.items ≡ length l.having;
  groups : length l.self.sums.items ≡ length l.fn.self.sums.items;
}

abbrev pub decreases-loop-place : goal.decreases-loop-place
decreases-loop-place g l = length l.having - l.from
