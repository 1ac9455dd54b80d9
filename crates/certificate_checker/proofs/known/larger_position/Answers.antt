use Rattle.std.proofs.Common.{◌+◌, refl, ap, subst, arith, vec_len}
use Rattle.state_groups.specs.PlacedValues.{codes_of_sets}
use Rattle.certificate_laws.specs.Groups.{AreGroupsOf}
use Rattle.search_groups.specs.Positions.{search_problem, search_round, search_state}
use Rattle.search_groups.proofs.NextMoves.{sized_at}
use Rattle.certificate_checker.proofs.KnownPlaces.{no_items, is_zero}
use Rattle.certificate_checker.proofs.known.larger_position.Goals as goal

pub returns-clause-at : goal.returns-clause-at
returns-clause-at g c =
    let test = g.C.CountySet.test in
    let search = c.args.search.now in
    let tested = c.in_ok-tested.tested in
    sized_at g.row.C.Denot test g.C.CountySet.PLACES search c.requires.input c.requires.input.graph.order (search_state search test c.args.position.state) tested c.in_ok-tested.ensures.at.0 _ (no_items tested.groups.items (omega (arith, is_zero (vec_len tested.groups) c.if-not-is_empty.ensures, tested.groups.ok))) refl refl (omega (arith, c.if-tested-search.false)) c.in_ok-groups.ensures.below
    (subst (λ z. AreGroupsOf (search_problem search) (search_round search) (search_state search test z) (tested.size + 1) (codes_of_sets search.graph.now.ordered.now.order test c.in_ok-groups.groups.items)) c.in_ok-tested.ensures.at.1 c.in_ok-groups.ensures.groups) refl

pub returns-clause-larger : goal.returns-clause-larger
returns-clause-larger g c = ap (λ n. n + 1) c.in_ok-tested.ensures.at.2
