use Rattle.std.proofs.Common.{refl, subst}
use Rattle.state_groups.specs.PlacedValues.{codes_of_set, codes_of_sets}
use Rattle.search_groups.specs.KnownGroups.{AreThose, IsApart}
use Rattle.search_groups.proofs.Positions.{closable, closed_at}
use Rattle.search_groups.specs.Positions.{search_state}
use Rattle.search_groups.proofs.moves.closed_position.Goals as goal

pub closed_state-requires-clause-group : goal.closed_state-requires-clause-group
closed_state-requires-clause-group g c =
    let s = search_state c.args.input.now g.C.CountySet.test c.args.position.now.state in
    let fits = c.requires.group in
    closable g.row.C.Denot g.C.CountySet.test g.C.CountySet.PLACES c.args.input.now c.requires.input s c.args.position.now fits.0 c.args.group.now c.requires.input.graph.order c.requires.below c.requires.at fits.1

pub returns : goal.returns
returns g c =
    let s = search_state c.args.input.now g.C.CountySet.test c.args.position.now.state in
    let fits = c.requires.group in
    closed_at g.row.C.Denot g.C.CountySet.test g.C.CountySet.PLACES c.args.input.now c.requires.input s c.args.position.now _ fits.0 c.args.group.now c.problem-problem.ensures.law c.requires.at fits.1 c.in_ok-state.ensures.placed c.in_ok-state.ensures.value refl c.in_ok-groups.ensures.below
    (subst (λ z. AreThose c.args.input.now.graph.now.ordered.now.order (IsApart (codes_of_set c.args.input.now.graph.now.ordered.now.order g.C.CountySet.test c.args.group.now)) (codes_of_sets c.args.input.now.graph.now.ordered.now.order g.C.CountySet.test z) (codes_of_sets c.args.input.now.graph.now.ordered.now.order g.C.CountySet.test c.in_ok-groups.groups.items)) c.deref.ensures.value c.in_ok-groups.ensures.those)
    c.in_ok-larger.ensures
