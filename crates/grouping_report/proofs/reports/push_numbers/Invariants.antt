use Rattle.std.proofs.Common.{◌≡◌, ◌++◌}
use Rattle.grouping_laws.specs.Grouping.{sets_of, counts}
use Rattle.grouping_report.specs.Report.{numbers_to}
use Rattle.grouping_report.proofs.reports.push_numbers.Given as goal

abbrev pub invariant-loop-shorter : goal.invariant-loop-shorter
invariant-loop-shorter l = l.out.items ≡ l.fn.out.items ++ numbers_to (counts (sets_of l.groups)) l.shorter
