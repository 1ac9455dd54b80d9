use Rattle.std.proofs.Common.{length, ap, subst, arith}
use Rattle.county_problem.specs.ProblemValue.{problem_of}
use Rattle.certificate_data.specs.RoundValue.{round_of}
use Rattle.certificate_laws.specs.State.{empty_state}
use Rattle.share_board.specs.Openings.{IsHalted}
use Rattle.share_board.proofs.Branching.{opening_halted}
use Rattle.share_board.proofs.opening.opened.Goals as goal

pub returns-in-Err-clause-stopped : goal.returns-in-Err-clause-stopped
returns-in-Err-clause-stopped g c =
    let p = problem_of c.args.graph.now.ordered.now.problem in
    let round = round_of c.args.round.now in
    let share = c.share_of.result in
    let at_empty = subst (λ z. IsHalted p round share c.args.depth z (length c.new-states.result.items) c.in-Err.stop) c.in_ok-state.ensures.value c.in-Err.ensures.stopped in
    opening_halted p round c.args.budget share c.args.depth c.in-Err.stop c.share_of.ensures.greatest (subst (λ z. IsHalted p round share c.args.depth (empty_state p) z c.in-Err.stop) (ap length c.new-states.ensures.items) at_empty)

pub returns-clause-wait : goal.returns-clause-wait
returns-clause-wait g c = λ k low lt. c.in_ok-fates.ensures.wait k (omega (arith, lt, c.len.ensures, c.in_ok-fates.ensures.count))
