use Rattle.std.proofs.Common.{option_map, subst}
use Rattle.std.proofs.lemmas.Result.{IfOk-weaker}
use Rattle.connected_sets.specs.Graphs.{graph_problem}
use Rattle.certificate_data.specs.RoundValue.{round_of}
use Rattle.piece_states.specs.PieceValue.{piece_of}
use Rattle.piece_worker.specs.Answers.{IsAnswerIn, IsAnswerIfAny}
use Rattle.piece_worker.specs.Rounds.{HoldsRound}
use Rattle.piece_worker.proofs.RoundsHeld.{said_in}
use Rattle.piece_worker.proofs.answering.answer_if_any.Goals as goal

pub returns-in-Some-clause-answer : goal.returns-in-Some-clause-answer
returns-in-Some-clause-answer g c = λ told holds.
    let p = graph_problem c.args.graph.now in
    let piece = piece_of c.args.piece.now in
    let held = c.in-Some.last in
    IfOk-weaker c.answer_in.result (λ found. IsAnswerIn p (round_of held.round) piece (option_map (λ t. t.items) found)) (λ found. IsAnswerIfAny p told piece (option_map (λ t. t.items) found))
    (λ found is. said_in p told held piece (option_map (λ t. t.items) found) (subst (HoldsRound p told) c.in-Some.is holds) c.if-last-piece.true is)
    c.answer_in.ensures.answer
