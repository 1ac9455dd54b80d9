use Rattle.std.proofs.Common.{ap, ◌∙◌, subst, IfOk}
use Rattle.std.proofs.lemmas.Result.{IfOk-weaker}
use Rattle.grouping_laws.specs.Problem.{Problem}
use Rattle.county_problem.specs.ProblemValue.{problem_of, codes_of}
use Rattle.county_problem.specs.OrderedValue.{OrderedValue}
use Rattle.branch_bound.specs.Answers.{IsSolveAnswer, SolveIsRight, HasCompleteTree, SaysWhether}
use Rattle.branch_bound.proofs.Rounds.{answer_names_best, answer_says_whether, solved, listed_order}
use Rattle.branch_bound.proofs.solving.solve_over.Goals as goal

pub returns-in-Ok : goal.returns-in-Ok
returns-in-Ok g c =
    let q = problem_of c.args.problem.now in
    let r = c.solve_ordered.result in
    let same = ap (λ (v : OrderedValue). problem_of v.problem) c.in-Ok.ensures.value in
    let answer = solved (problem_of c.in-Ok.ordered.problem) q c.tick.new.self.limit c.args.step_limit r same (c.tick.ensures.limit ∙ c.new-steps.ensures.limit) c.solve_ordered.ensures.answer in
    record {
      answer = answer;
      best = IfOk-weaker r (IsSolveAnswer q c.args.step_limit) (SolveIsRight q) (answer_names_best q c.args.step_limit) answer;
      complete = subst (λ (x : Problem). IfOk r (HasCompleteTree x)) same c.solve_ordered.ensures.complete;
      impossible = IfOk-weaker r (IsSolveAnswer q c.args.step_limit) (SaysWhether q c.args.step_limit) (answer_says_whether q c.args.step_limit) answer;
    }

pub unreachable-requires : goal.unreachable-requires
unreachable-requires g c =
    c.in-Err-WrongOrder.ensures.fault
    c.in-Err-WrongOrder.field-0-is
    (listed_order (problem_of c.args.problem.now) c.deref.result.now c.counties.ensures.problem (c.deref.ensures.value ∙ c.in_ok-order.ensures ∙ ap codes_of c.counties.ensures.value))
