use Rattle.std.proofs.Common.{◌≤◌}
use Rattle.search_groups.proofs.kept_sums.slack.Given as goal

abbrev pub invariant-loop-group : goal.invariant-loop-group
invariant-loop-group l = l.slack ≤ l.weight
