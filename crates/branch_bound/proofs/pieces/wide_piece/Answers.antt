use Rattle.std.proofs.Common.{subst}
use Rattle.branch_bound.specs.Searching.{search_problem, search_round, search_state}
use Rattle.branch_bound.specs.Pieces.{IsPieceAnswer}
use Rattle.branch_bound.proofs.Searches.{own}
use Rattle.branch_bound.proofs.pieces.wide_piece.Goals as goal

pub prove-requires-clause-at : goal.prove-requires-clause-at
prove-requires-clause-at g c =
    let input = c.args.input.now in
    own g.row.C.Denot g.C.CountySet.test input (search_state input g.C.CountySet.test c.args.state.now) c.in_ok-position.position c.in_ok-position.ensures.at

pub returns-clause-piece : goal.returns-clause-piece
returns-clause-piece g c =
    let input = c.args.input.now in
    subst (λ z. IsPieceAnswer (search_problem input) (search_round input) z c.answer_for.result) c.in_ok-position.ensures.at.is
    (c.answer_for.ensures.piece (search_problem input) (search_state input g.C.CountySet.test c.in_ok-position.position.state) c.in_ok-outcome.ensures.outcome)

pub returns-clause-counted : goal.returns-clause-counted
returns-clause-counted g c = λ closed. c.in_ok-outcome.ensures.counted (λ stopped. closed (c.answer_for.ensures.open.1 stopped))

pub returns-clause-open : goal.returns-clause-open
returns-clause-open g c = λ is. c.in_ok-outcome.ensures.stopped (c.answer_for.ensures.open.0 is)
