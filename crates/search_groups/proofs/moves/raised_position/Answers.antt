use Rattle.std.proofs.Common.{refl, subst}
use Rattle.state_groups.specs.PlacedValues.{codes_of_sets}
use Rattle.search_groups.specs.KnownGroups.{AreThose, Lacks}
use Rattle.county_problem.specs.OrderedValue.{code_at}
use Rattle.search_groups.specs.Positions.{search_state}
use Rattle.search_groups.proofs.Positions.{raised_at}
use Rattle.search_groups.proofs.moves.raised_position.Goals as goal

pub returns : goal.returns
returns g c =
    let s = search_state c.args.input.now g.C.CountySet.test c.args.position.state in
    raised_at g.row.C.Denot g.C.CountySet.test g.C.CountySet.PLACES c.args.input.now c.requires.input s c.args.position _ (code_at c.args.input.now.graph.now.ordered.now.order c.args.place) c.requires.at c.requires.can c.raise_place.ensures.placed c.raise_place.ensures.value refl c.in_ok-groups.ensures.below
    (subst (λ z. AreThose c.args.input.now.graph.now.ordered.now.order (Lacks (code_at c.args.input.now.graph.now.ordered.now.order c.args.place)) (codes_of_sets c.args.input.now.graph.now.ordered.now.order g.C.CountySet.test z) (codes_of_sets c.args.input.now.graph.now.ordered.now.order g.C.CountySet.test c.in_ok-groups.groups.items)) c.deref.ensures.value c.in_ok-groups.ensures.those)
    refl
