use Rattle.std.proofs.Common.{sym, subst, IfOk}
use Rattle.std.specs.List.Sorted.{IsStrictlyIncreasing}
use Rattle.county_problem.specs.ProblemValue.{problem_of}
use Rattle.county_problem.specs.OrderedValue.{OrderedValue}
use Rattle.branch_bound.specs.Answers.{IsSolveAnswer, HasCompleteTree}
use Rattle.branch_bound.specs.Solving.{IsFirst}
use Rattle.branch_bound.proofs.solving.solve_ordered.Goals as goal

pub improve-requires-clause-order : goal.improve-requires-clause-order
improve-requires-clause-order g c = subst (λ (v : OrderedValue). IsStrictlyIncreasing v.order) (sym c.in_ok-graph.ensures.ordered) c.requires.order

pub returns : goal.returns
returns g c = record {
  answer = subst (λ (v : OrderedValue). IfOk c.improve.result (IsSolveAnswer (problem_of v.problem) c.args.steps.now.limit)) c.in_ok-graph.ensures.ordered c.improve.ensures.answer;
  complete = subst (λ (v : OrderedValue). IfOk c.improve.result (HasCompleteTree (problem_of v.problem))) c.in_ok-graph.ensures.ordered c.improve.ensures.complete;
}

pub returns-in-Impossible : goal.returns-in-Impossible
returns-in-Impossible g c =
    let first : IsFirst (problem_of c.args.ordered.now.problem) c.args.ordered.now.order c.in_ok-certificate.field-0 =
    subst (λ (v : OrderedValue). IsFirst (problem_of v.problem) v.order c.in_ok-certificate.field-0) c.in_ok-graph.ensures.ordered c.in_ok-certificate.ensures in
    record { answer = (c.requires.some, rw c.in-Impossible.is at first); complete = tt }
