use Rattle.std.proofs.Common.{◌≡◌, ◌++◌}
use Rattle.grouping_laws.specs.Grouping.{sets_of, counts}
use Rattle.json_report.specs.ReportObject.{numbers_to}
use Rattle.json_report.proofs.report.push_numbers.Given as goal

abbrev pub invariant-loop-shorter : goal.invariant-loop-shorter
invariant-loop-shorter l = record {
  before : l.out.before ≡ l.fn.out.before;
  so_far : l.out.tokens ≡ l.fn.out.tokens ++ numbers_to (counts (sets_of l.groups)) l.shorter;
}
