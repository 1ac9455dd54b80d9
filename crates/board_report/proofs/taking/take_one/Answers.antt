use Rattle.share_board.specs.BoardValue.{reply_of}
use Rattle.board_report.proofs.taking.take_one.Goals as goal

pub returns-clause-taken : goal.returns-clause-taken
returns-clause-taken g c = λ b is.
    let order = c.args.board.now.round.order in
    let test = g.C.CountySet.test in
    (reply_of order test c.step-answer.result, c.was_refused.ensures order test c.if-was_refused.false, c.step-answer.ensures.says b is, c.step-answer.ensures.leads b is)
