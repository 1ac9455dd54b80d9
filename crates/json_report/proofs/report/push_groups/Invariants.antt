use Rattle.std.proofs.Common.{◌≡◌, ◌≤◌, ◌+◌, ◌++◌, ℕ, drop}
use Rattle.grouping_laws.specs.Sets.{count_in}
use Rattle.grouping_laws.specs.Grouping.{sets_of}
use Rattle.county_problem.specs.ProblemValue.{problem_of}
use Rattle.json_report.specs.ReportObject.{group_objects}
use Rattle.json_report.proofs.report.push_groups.Given as goal

abbrev pub invariant-loop-i : goal.invariant-loop-i
invariant-loop-i l = record {
  before : l.out.before ≡ l.fn.out.before;
  so_far : l.out.tokens ++ group_objects (problem_of l.problem) (l.i + 1) (drop l.i l.groups)
      ≡ l.fn.out.tokens ++ group_objects (problem_of l.problem) 1 l.groups;
  once : (c : ℕ) → count_in c (sets_of (drop l.i l.groups)) ≤ 1;
}
