use Rattle.std.proofs.Common.{List, ℕ, ◌≤◌, ◌+◌, ◌++◌, ◌∙◌, ap, sym, subst, arith}
use Rattle.grouping_laws.specs.Sets.{count}
use Rattle.grouping_laws.specs.Problem.{people_of}
use Rattle.county_problem.specs.ProblemValue.{problem_of}
use Rattle.grouping_report.proofs.Appends.{from_read}
use Rattle.grouping_report.proofs.ReportLemmas.{stands_at}
use Rattle.json_report.specs.ReportObject.{group_object, group_objects}
use Rattle.json_report.proofs.Adding.{more}
use Rattle.json_report.proofs.report.push_groups.Goals as goal

pub people_of-people-requires : goal.people_of-people-requires
people_of-people-requires c =
    let stands = λ (x : ℕ). stands_at c.args.groups.now c.loop-i.i c.index-groups-i.result x
    c.loop-i-test.true c.index-groups-i.is in
    subst (λ (l : List ℕ). (x : ℕ) → count x l ≤ 1) (sym c.as_slice.ensures)
    (λ x. omega (arith, c.loop-i.invariant.once x, stands x))

pub loop-i-preserved : goal.loop-i-preserved
loop-i-preserved c =
    let p = problem_of c.args.problem.now in
    let gs = c.args.groups.now in
    let i = c.loop-i.i in
    let s = c.index-groups-i.result in
    let old = c.loop-i.out.tokens in
    let stands = λ (x : ℕ). stands_at gs i s x c.loop-i-test.true c.index-groups-i.is in
    let people = c.people_of-people.ensures.value ∙ ap (people_of p) c.as_slice.ensures in
    record {
      before = c.in_ok-push_group.ensures.0 ∙ c.loop-i.invariant.before;
      so_far =
          more old (group_object (i + 1) s.seats (people_of p s.codes) s.codes) _
          (c.in_ok-push_group.ensures.1 ∙ ap (λ n. old ++ group_object (i + 1) s.seats n s.codes) people)
          (from_read (group_objects p (i + 1)) gs i s c.loop-i-test.true c.index-groups-i.is)
          c.loop-i.invariant.so_far;
      once = λ x. omega (arith, c.loop-i.invariant.once x, stands x);
    }
