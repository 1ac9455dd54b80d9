use Rattle.std.proofs.Common.{ℕ, ◌<◌, ◌≤◌, get_or}
use Rattle.partial_trees.proofs.judging.look_at_codes.Given as goal

abbrev pub invariant-loop-code : goal.invariant-loop-code
invariant-loop-code l = (k d : ℕ) → k < l.code-index → get_or l.codes k d ≤ 99999
