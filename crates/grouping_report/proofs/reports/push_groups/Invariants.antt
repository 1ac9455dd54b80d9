use Rattle.std.proofs.Common.{◌≡◌, ◌≤◌, ◌+◌, ◌++◌, ℕ, drop}
use Rattle.grouping_laws.specs.Sets.{count_in}
use Rattle.grouping_laws.specs.Grouping.{sets_of}
use Rattle.county_problem.specs.ProblemValue.{problem_of}
use Rattle.grouping_report.specs.Report.{group_lines}
use Rattle.grouping_report.proofs.reports.push_groups.Given as goal

abbrev pub invariant-loop-i : goal.invariant-loop-i
invariant-loop-i l = record {
  so_far : l.out.items ++ group_lines (problem_of l.problem) (l.i + 1) (drop l.i l.groups) ≡ l.fn.out.items ++ group_lines (problem_of l.problem) 1 l.groups;
  once : (c : ℕ) → count_in c (sets_of (drop l.i l.groups)) ≤ 1;
}
