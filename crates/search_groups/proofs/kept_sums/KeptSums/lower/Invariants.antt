use Rattle.std.proofs.Common.{◌≡◌, length}
use Rattle.search_groups.proofs.kept_sums.KeptSums.lower.Given as goal

abbrev pub invariant-loop-place : goal.invariant-loop-place
invariant-loop-place l = record {
  count : length l.self.weights.items ≡ length l.having;
  groups : length l.self.sums.items ≡ length l.fn.self.sums.items;
}
