use Rattle.std.proofs.Common.{◌≤◌, All}
use Rattle.search_groups.proofs.kept_sums.halve.Given as goal

abbrev pub invariant-loop-weight : goal.invariant-loop-weight
invariant-loop-weight l = All (λ w. w ≤ 1000000) l.weights
