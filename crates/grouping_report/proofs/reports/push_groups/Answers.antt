use Rattle.std.proofs.Common.{List, ℕ, ◌≤◌, ◌+◌, sym, subst, arith}
use Rattle.std.proofs.lemmas.Grind.{common_steps}
use Rattle.grouping_laws.specs.Sets.{count}
use Rattle.county_problem.specs.ProblemValue.{problem_of}
use Rattle.grouping_report.proofs.ReportLemmas.{lines_at, stands_at}
use Rattle.grouping_report.proofs.reports.push_groups.Goals as goal

pub people_of-people-requires : goal.people_of-people-requires
people_of-people-requires c =
    subst (λ (l : List ℕ). (x : ℕ) → count x l ≤ 1) (sym c.as_slice.ensures)
    (λ x. omega (arith, c.loop-i.invariant.once x, stands_at c.args.groups.now c.loop-i.i c.index-groups-i.result x c.loop-i-test.true c.index-groups-i.is))

pub loop-i-preserved : goal.loop-i-preserved
loop-i-preserved c = record {
  so_far =
      let lines = lines_at (problem_of c.args.problem.now) c.args.groups.now c.loop-i.i (c.loop-i.i + 1) c.index-groups-i.result c.loop-i-test.true c.index-groups-i.is in
      grind (arith, common_steps, lines);
  once = λ x. omega (arith, c.loop-i.invariant.once x, stands_at c.args.groups.now c.loop-i.i c.index-groups-i.result x c.loop-i-test.true c.index-groups-i.is);
}
