use Rattle.std.proofs.Common.{Err, ap, ◌∙◌, sym, subst, arith}
use Rattle.certificate_laws.specs.Groups.{IsSetAt}
use Rattle.checker_laws.specs.Cost.{IsSetCount}
use Rattle.share_board.specs.Openings.{board_problem, board_round, board_state}
use Rattle.share_board.proofs.Shares.{share_below}
use Rattle.share_board.proofs.steps.next_branch.Goals as goal

pub returns-in-Err-StepLimit-clause-stopped : goal.returns-in-Err-StepLimit-clause-stopped
returns-in-Err-StepLimit-clause-stopped g c = λ e.
    let input = c.args.input.now in
    let p = board_problem input in
    let s = board_state input g.C.CountySet.test c.args.state.now in
    let county = c.code.result in
    let stops = c.judge_branch.ensures.stopped (c.in-Err-StepLimit.is ∙ ap Err c.in-Err-StepLimit.field-0-is) in
    share_below p (board_round input) s county input.share
    (λ m many. omega (arith, stops.2 m (subst (λ z. IsSetCount z (IsSetAt p z s county input.round.now.limit) m) (sym c.requires.input.order) many), c.new-steps.ensures.limit, c.new-steps.ensures.used))
