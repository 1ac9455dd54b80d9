use Rattle.std.proofs.Common.{subst}
use Rattle.state_groups.specs.PlacedValues.{codes_of_set, codes_of_sets}
use Rattle.search_groups.specs.KnownGroups.{AreThose, IsApart}
use Rattle.search_groups.proofs.Positions.{closed_larger}
use Rattle.search_groups.specs.Positions.{search_state}
use Rattle.search_groups.proofs.moves.larger_apart.Goals as goal

pub returns : goal.returns
returns g c =
    let test = g.C.CountySet.test in
    let input = c.args.input.now in
    let at = c.args.position.now in
    let order = input.graph.now.ordered.now.order in
    let fits = c.requires.group in
    closed_larger g.row.C.Denot test g.C.CountySet.PLACES input c.requires.input (search_state input test at.state) at fits.0 c.args.group.now c.in-Some.larger _ c.problem-problem.ensures.law c.requires.at fits.1 (rw c.in-Some.is at c.requires.at.larger) c.in_ok-groups.ensures.below
    (subst (λ z. AreThose order (IsApart (codes_of_set order test c.args.group.now)) (codes_of_sets order test z) (codes_of_sets order test c.in_ok-groups.groups.items)) c.deref.ensures.value c.in_ok-groups.ensures.those)
