use Rattle.std.proofs.Common.{◌≡◌, max, drop}
use Rattle.grouping_laws.specs.Grouping.{sets_of}
use Rattle.grouping_report.specs.Report.{longest_size}
use Rattle.grouping_report.proofs.reports.longest_group.Given as goal

abbrev pub invariant-loop-group : goal.invariant-loop-group
invariant-loop-group l = max l.longest (longest_size (sets_of (drop l.group-index l.groups))) ≡ longest_size (sets_of l.groups)
