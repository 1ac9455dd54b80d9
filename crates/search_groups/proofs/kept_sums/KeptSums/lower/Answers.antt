use Rattle.std.proofs.Common.{arith}
use Rattle.search_groups.proofs.kept_sums.KeptSums.lower.Goals as goal

pub change_weight-requires-clause-below : goal.change_weight-requires-clause-below
change_weight-requires-clause-below c = λ k d l j e m. omega (arith, c.requires.below k d l j e m, c.loop-place.invariant.groups)
