use Rattle.std.proofs.Common.{IfOk, subst}
use Rattle.county_problem.specs.ProblemValue.{problem_of}
use Rattle.certificate_data.specs.RoundValue.{round_of}
use Rattle.certificate_laws.specs.State.{empty_state}
use Rattle.branch_bound.specs.Searching.{IsOutcome}
use Rattle.branch_bound.proofs.Searches.{own}
use Rattle.branch_bound.proofs.solving.prove_first.Goals as goal

pub prove-requires-clause-at : goal.prove-requires-clause-at
prove-requires-clause-at g c = own g.row.C.Denot g.C.CountySet.test _ (empty_state (problem_of c.args.graph.now.ordered.now.problem)) c.in_ok-first.first c.in_ok-first.ensures

pub returns-clause-outcome : goal.returns-clause-outcome
returns-clause-outcome g c =
    subst (λ z. IfOk c.prove.result (IsOutcome (problem_of c.args.graph.now.ordered.now.problem) (round_of c.args.round.now) z)) c.in_ok-first.ensures.is c.prove.ensures.outcome
