use Rattle.std.proofs.Common.{sym, subst}
use Rattle.certificate_data.specs.RoundValue.{round_of}
use Rattle.branch_bound.specs.Searching.{IsOutcome, IsStopped}
use Rattle.branch_bound.proofs.pieces.answer_for.Goals as goal

pub returns-in-Better-clause-piece : goal.returns-in-Better-clause-piece
returns-in-Better-clause-piece c = λ p s o. c.found_answer.ensures.piece p s (subst (λ z. IsOutcome p (round_of c.args.round.now) s z) c.in-Better.is o)

pub returns-in-Better-clause-open : goal.returns-in-Better-clause-open
returns-in-Better-clause-open c = (λ is. absurd (c.found_answer.ensures.closed is), λ stopped. absurd (subst IsStopped c.in-Better.is stopped))

pub returns-in-Open-clause-piece : goal.returns-in-Open-clause-piece
returns-in-Open-clause-piece c = λ p s o. c.open_answer.ensures.piece p (round_of c.args.round.now) s (subst (λ z. IsOutcome p (round_of c.args.round.now) s z) c.in-Open.is o)

pub returns-in-Open-clause-open : goal.returns-in-Open-clause-open
returns-in-Open-clause-open c = (λ is. subst IsStopped (sym c.in-Open.is) tt, λ stopped. c.open_answer.ensures.open)
