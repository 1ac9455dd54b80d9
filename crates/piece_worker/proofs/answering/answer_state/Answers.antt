use Rattle.std.proofs.Common.{ℕ, length, sym, ap, ◌∙◌, subst, arith}
use Rattle.connected_sets.specs.Graphs.{graph_order, graph_problem}
use Rattle.certificate_data.specs.RoundValue.{round_of}
use Rattle.grouping_laws.specs.GroupsFrom.{IsOrder}
use Rattle.state_groups.specs.PlacedValues.{state_at}
use Rattle.board_report.specs.PieceText.{HasText}
use Rattle.board_report.proofs.PieceEvents.{has_text}
use Rattle.piece_worker.proofs.answering.answer_state.Goals as goal

pub piece_text-requires-clause-spelled : goal.piece_text-requires-clause-spelled
piece_text-requires-clause-spelled g c =
    let graph = c.args.graph.now in
    let round = c.args.round.now in
    let number = c.args.piece.now.piece in
    let p = graph_problem graph in
    let s = state_at (graph_order graph) g.C.CountySet.test c.args.state.now in
    let order = subst (IsOrder p) c.requires.order c.requires.graph.order in
    let text = has_text p (round_of round) s number c.in_ok-answer.answer order c.requires.state c.requires.small (omega arith) c.in_ok-answer.ensures.piece in
    subst (λ (n : ℕ). HasText round.format n number c.in_ok-answer.answer) (ap length (sym c.requires.order) ∙ sym c.places-counties.ensures.value) text
