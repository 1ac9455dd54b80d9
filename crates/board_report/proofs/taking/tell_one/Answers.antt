use Rattle.share_board.specs.BoardValue.{reply_of}
use Rattle.board_report.proofs.InTurn.{on_ok}
use Rattle.board_report.proofs.taking.tell_one.Goals as goal

pub returns-clause-told : goal.returns-clause-told
returns-clause-told g c =
    let order = c.args.board.now.round.order in
    let test = g.C.CountySet.test in
    on_ok c.push_reply.result (c.push_reply.ensures order test) (λ pushed b is. (reply_of order test c.step-reply.result, c.step-reply.ensures.says b is, c.step-reply.ensures.leads b is, pushed))
