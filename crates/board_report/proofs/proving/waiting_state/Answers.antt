use Rattle.std.proofs.Common.{length, ap, subst, Contains}
use Rattle.county_problem.specs.ProblemValue.{problem_of}
use Rattle.certificate_laws.specs.State.{empty_state}
use Rattle.state_groups.specs.PlacedValues.{state_at}
use Rattle.board_laws.specs.Skeleton.{waiting}
use Rattle.board_laws.specs.Standing.{StandsAt}
use Rattle.share_board.specs.BoardValue.{reply_of, HandsPlaced}
use Rattle.board_report.proofs.Handing.{piece_handed, nothing_left, another}
use Rattle.board_report.proofs.proving.waiting_state.Goals as goal

pub returns-then-piece-number : goal.returns-then-piece-number
returns-then-piece-number g c = λ b is.
    let board = c.args.board.now in
    let test = g.C.CountySet.test in
    let r = piece_handed (problem_of board.problem) 0 board.budget b c.args.number c.in-Piece.field-0 c.in-Piece.piece (state_at board.round.order test c.in-Piece.state) (reply_of board.round.order test c.hand.result) (ap (reply_of board.round.order test) c.in-Piece.is) (c.hand.ensures.says 0 b is) in
    another (waiting b.skeleton) c.args.number c.in-Piece.piece c.if-piece-number.true r.handed

pub returns-else-piece-number : goal.returns-else-piece-number
returns-else-piece-number g c = λ b is.
    let board = c.args.board.now in
    let test = g.C.CountySet.test in
    let r = piece_handed (problem_of board.problem) 0 board.budget b c.args.number c.in-Piece.field-0 c.in-Piece.piece (state_at board.round.order test c.in-Piece.state) (reply_of board.round.order test c.hand.result) (ap (reply_of board.round.order test) c.in-Piece.is) (c.hand.ensures.says 0 b is) in (
      subst (Contains (waiting b.skeleton)) c.if-piece-number.false r.handed.0,
      subst (HandsPlaced (length board.round.order) test) c.in-Piece.is c.hand.ensures.placed,
      subst (λ n. StandsAt b.skeleton b.round (empty_state (problem_of board.problem)) n (state_at board.round.order test c.in-Piece.state)) c.if-piece-number.false r.stands,
    )

pub returns-in-NothingLeft : goal.returns-in-NothingLeft
returns-in-NothingLeft g c = λ b is.
    let board = c.args.board.now in
    let test = g.C.CountySet.test in
    nothing_left (problem_of board.problem) 0 board.budget b c.args.number (reply_of board.round.order test c.hand.result) (ap (reply_of board.round.order test) c.in-NothingLeft.is) (c.hand.ensures.says 0 b is)
