use Rattle.std.proofs.Common.{List, ℕ, subst, sym}
use Rattle.certificate_laws.specs.Fitting.{Fits}
use Rattle.connected_sets.specs.Graphs.{graph_problem, graph_order}
use Rattle.state_groups.specs.PlacedValues.{state_at}
use Rattle.piece_states.proofs.Groups.{closable}
use Rattle.piece_states.proofs.closing.close_told.Goals as goal

pub closed_state-requires-clause-group : goal.closed_state-requires-clause-group
closed_state-requires-clause-group g c =
    let p = graph_problem c.args.graph.now in
    let order = graph_order c.args.graph.now in
    let test = g.C.CountySet.test in
    let format = c.args.round.now.format in
    let codes = rw c.in-Some.is at c.in_ok-set.ensures.codes in
    let below = rw c.in-Some.is at c.in_ok-set.ensures.below in
    let can = rw c.in-Some.is at c.in_ok-set.ensures.can in
    closable p order test c.closing.state c.requires.graph.order c.closing.invariant.placed c.in-Some.set format below
    (subst (λ (h : List ℕ). Fits format p (state_at order test c.closing.state) h) (sym codes) can.fits)
