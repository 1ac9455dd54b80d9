use Rattle.std.proofs.Common.{◌≡◌, ◌++◌, drop}
use Rattle.grouping_laws.specs.Grouping.{sets_of}
use Rattle.list_report.proofs.sets.group_sets.Given as goal

abbrev pub invariant-loop-group : goal.invariant-loop-group
invariant-loop-group l = l.sets.items ++ sets_of (drop l.group-index l.groups) ≡ sets_of l.groups
