use Rattle.std.proofs.Common.{◌≤◌, length, sym, ap, ◌∙◌, subst, arith}
use Rattle.county_problem.specs.ProblemValue.{problem_of}
use Rattle.grouping_laws.specs.GroupsFrom.{IsOrder}
use Rattle.certificate_data.specs.Round.{Round}
use Rattle.certificate_data.specs.RoundValue.{round_of}
use Rattle.certificate_laws.specs.State.{IsState, empty_state}
use Rattle.state_groups.specs.PlacedValues.{state_at, IsPlaced}
use Rattle.board_laws.specs.Standing.{StandsAt}
use Rattle.branch_bound.specs.Pieces.{IsPieceAnswer}
use Rattle.board_report.specs.PieceAnswers.{IsStateHeld}
use Rattle.board_report.specs.PieceText.{HasText}
use Rattle.board_report.proofs.PieceEvents.{has_text}
use Rattle.board_report.proofs.proving.answer_at.Goals as goal

pub returns-in_default-clause-answer : goal.returns-in_default-clause-answer
returns-in_default-clause-answer g c = λ b is. subst (IsStateHeld g.C.CountySet.test c.args.board.now b c.args.number) c.in_default.is (c.in_ok-state.ensures b is)

pub prove_piece-requires-clause-fits : goal.prove_piece-requires-clause-fits
prove_piece-requires-clause-fits g c = subst (λ z. length z ≤ g.C.CountySet.PLACES) (sym c.proof_round.ensures.same_order) c.requires.fits

pub prove_piece-requires-clause-order : goal.prove_piece-requires-clause-order
prove_piece-requires-clause-order g c = subst (λ z. IsOrder (problem_of z) c.proof_round.result.now.order) c.requires.problem (c.proof_round.ensures.order c.requires.board.0 c.requires.board.1)

pub prove_piece-requires-clause-small : goal.prove_piece-requires-clause-small
prove_piece-requires-clause-small g c = c.proof_round.ensures.small c.requires.board.0 c.requires.board.1

pub prove_piece-requires-clause-placed : goal.prove_piece-requires-clause-placed
prove_piece-requires-clause-placed g c =
    let test = g.C.CountySet.test in
    let b = c.requires.board.0 in
    let held = subst (IsStateHeld test c.args.board.now b c.args.number) c.in-Some.is (c.in_ok-state.ensures b c.requires.board.1) in
    subst (λ z. IsPlaced (length z) test c.in-Some.state) (sym c.proof_round.ensures.same_order) held.1

pub prove_piece-requires-clause-state : goal.prove_piece-requires-clause-state
prove_piece-requires-clause-state g c =
    let test = g.C.CountySet.test in
    let b = c.requires.board.0 in
    let board = c.args.board.now in
    let round = c.proof_round.result.now in
    let held = subst (IsStateHeld test board b c.args.number) c.in-Some.is (c.in_ok-state.ensures b c.requires.board.1) in
    let stands = subst (λ z. StandsAt b.skeleton b.round (empty_state (problem_of board.problem)) c.args.number (state_at z test c.in-Some.state)) (sym c.proof_round.ensures.same_order) held.2 in
    subst (λ z. IsState (problem_of z) (round_of round) (state_at round.order test c.in-Some.state)) c.requires.problem (c.proof_round.ensures.states b c.args.number (state_at round.order test c.in-Some.state) c.requires.board.1 stands)

pub returns-clause-answer : goal.returns-clause-answer
returns-clause-answer g c = λ b is.
    let test = g.C.CountySet.test in
    let board = c.args.board.now in
    let state = c.in-Some.state in
    let p = problem_of c.args.problem.now in
    let held = subst (IsStateHeld test board b c.args.number) c.in-Some.is (c.in_ok-state.ensures b is) in
    let answer = subst (λ z. IsPieceAnswer p (round_of c.proof_round.result.now) (state_at z test state) c.in_ok-answer.answer) c.proof_round.ensures.same_order c.in_ok-answer.ensures.piece in (
      held.0,
      (
        state_at board.round.order test state,
        subst (λ z. StandsAt b.skeleton b.round (empty_state (problem_of z)) c.args.number (state_at board.round.order test state)) c.requires.problem held.2,
        subst (λ z. IsPieceAnswer p z (state_at board.round.order test state) c.in_ok-answer.answer) (c.proof_round.ensures.round b is) answer,
      ),
    )

pub returns-clause-text : goal.returns-clause-text
returns-clause-text g c =
    let test = g.C.CountySet.test in
    let b = c.requires.board.0 in
    let is = c.requires.board.1 in
    let board = c.args.board.now in
    let round = c.proof_round.result.now in
    let p = problem_of c.args.problem.now in
    let s = state_at round.order test c.in-Some.state in
    let held = subst (IsStateHeld test board b c.args.number) c.in-Some.is (c.in_ok-state.ensures b is) in
    let stands = subst (λ z. StandsAt b.skeleton b.round (empty_state (problem_of board.problem)) c.args.number (state_at z test c.in-Some.state)) (sym c.proof_round.ensures.same_order) held.2 in
    let order = subst (λ z. IsOrder (problem_of z) round.order) c.requires.problem (c.proof_round.ensures.order b is) in
    let state = subst (λ z. IsState (problem_of z) (round_of round) s) c.requires.problem (c.proof_round.ensures.states b c.args.number s is stands) in
    let text = has_text p (round_of round) s c.args.number c.in_ok-answer.answer order state (c.proof_round.ensures.small b is) (omega (arith, c.ranges.number)) c.in_ok-answer.ensures.piece in
    subst (λ z. HasText z (length board.round.order) c.args.number c.in_ok-answer.answer) (ap (λ (z : Round). z.format) (c.proof_round.ensures.round b is ∙ sym is.round))
    (subst (λ z. HasText (round_of round).format (length z) c.args.number c.in_ok-answer.answer) c.proof_round.ensures.same_order text)
