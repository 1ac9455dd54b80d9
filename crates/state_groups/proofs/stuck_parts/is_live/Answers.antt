use Rattle.std.proofs.Common.{◌∙◌, ◌&&◌, not, ap, length}
use Rattle.county_problem.specs.OrderedValue.{problem_at}
use Rattle.state_groups.specs.StateValue.{state_of}
use Rattle.state_groups.proofs.StuckLemmas.{live_by}
use Rattle.state_groups.proofs.stuck_parts.is_live.Goals as goal

pub returns : goal.returns
returns g c =
    let test = g.C.CountySet.test in
    let group = test c.args.group.now in
    live_by (problem_at c.args.graph.now.ordered.now) (state_of test c.args.state.now) (length c.args.graph.now.ordered.now.order) group (test c.minus-left.result) (test c.in_ok-none.none) c.in_ok-stuck.stuck c.requires.below
    (λ x. c.minus-left.ensures.places x ∙ ap (λ z. z && not (group x)) (c.in_ok-copy.ensures.places x)) c.in_ok-none.ensures.places c.in_ok-stuck.ensures
