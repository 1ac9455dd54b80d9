use Rattle.std.proofs.Common.{map}
use Rattle.connected_sets.specs.Graphs.{graph_problem, graph_order}
use Rattle.certificate_data.specs.RoundValue.{round_of}
use Rattle.state_groups.specs.PlacedValues.{state_at}
use Rattle.piece_states.specs.PieceValue.{asked_of}
use Rattle.piece_states.proofs.RoundStates.{steps_lead, some_both}
use Rattle.piece_states.proofs.told.told_state.Goals as goal

pub returns-clause-state : goal.returns-clause-state
returns-clause-state g c =
    let order = graph_order c.args.graph.now in
    let seen = state_at order g.C.CountySet.test in
    let closes = rw c.in-Some.is at c.in_ok-closed.ensures.value in
    let can_close = rw c.in-Some.is at c.in_ok-closed.ensures.can in
    some_both c.raise_all_told.result _ _ _ c.raise_all_told.ensures.value c.raise_all_told.ensures.can
    (λ s raises can_ask. steps_lead (graph_problem c.args.graph.now) order (round_of c.args.round.now) c.deref.result.now (map asked_of c.deref-2.result.now) (seen c.in_ok-first.first) (seen c.in-Some.closed) (seen s)
    c.in_ok-first.ensures.value closes can_close raises can_ask)
