use Rattle.std.proofs.Common.{◌∙◌, sym}
use Rattle.std.proofs.lemmas.Bool.{false≢true}
use Rattle.std.proofs.lemmas.Result.{IfOk-weaker}
use Rattle.connected_sets.specs.Graphs.{graph_problem, graph_order}
use Rattle.piece_states.proofs.Groups.{fits_both, fits_connected}
use Rattle.piece_states.proofs.closing.group_fits.Goals as goal

pub returns-then-not-branch : goal.returns-then-not-branch
returns-then-not-branch g c =
    let connected = fits_connected (graph_problem c.args.graph.now) (graph_order c.args.graph.now) g.C.CountySet.test c.args.state.now c.requires.graph.order c.requires.placed c.args.group.now c.args.format in (
      λ e. absurd (false≢true e),
      λ fits. sym c.if-not-branch.true ∙ c.in_ok-is_connected.ensures.1 (connected fits),
    )

pub returns : goal.returns
returns g c =
    let both = fits_both (graph_problem c.args.graph.now) (graph_order c.args.graph.now) g.C.CountySet.test c.args.state.now c.requires.graph.order c.requires.placed c.args.group.now c.args.format in
    IfOk-weaker c.fits.result _ _ (λ fit same. (λ e. both.0 (same.0 e), λ f. same.1 (both.1 f))) c.fits.ensures
