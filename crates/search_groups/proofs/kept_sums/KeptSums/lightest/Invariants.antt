use Rattle.std.proofs.Common.{◌<◌, length}
use Rattle.search_groups.proofs.kept_sums.KeptSums.lightest.Given as goal

abbrev pub invariant-loop-index : goal.invariant-loop-index
invariant-loop-index l = l.lightest < length l.self.sums.items
