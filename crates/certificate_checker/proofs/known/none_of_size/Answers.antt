use Rattle.std.proofs.Common.{sym, ◌∙◌, subst, arith, vec_len}
use Rattle.std.proofs.lemmas.Bool.{eqb-true}
use Rattle.state_groups.specs.PlacedValues.{state_at}
use Rattle.search_groups.specs.Positions.{IsPositionAt}
use Rattle.search_groups.proofs.NextMoves.{none_at}
use Rattle.certificate_checker.specs.Knowing.{search_of}
use Rattle.certificate_checker.proofs.KnownPlaces.{no_items, search_law}
use Rattle.certificate_checker.proofs.known.none_of_size.Goals as goal

pub returns-in-Ok-clause-none : goal.returns-in-Ok-clause-none
returns-in-Ok-clause-none g c holds group fits size =
    let input = c.args.input.now in
    let test = g.C.CountySet.test in
    let order = input.graph.now.ordered.now.order in
    let first = rw (sym c.take.ensures.value ∙ c.in-Some.is) at c.requires.known in
    let sized = rw c.in-Some-2.is at c.in_ok-position.ensures.at in
    let tested = c.in-Ok.tested in
    let here = subst (λ z. IsPositionAt test (search_of input) z tested) (sized.0.is ∙ first.1.is) c.in-Ok.ensures.at.0 in
    let empty = no_items tested.groups.items (omega (arith, eqb-true (vec_len tested.groups) 0 (sym c.is_empty-none.ensures ∙ holds), tested.groups.ok)) in
    none_at g.row.C.Denot test g.C.CountySet.PLACES (search_of input) (search_law g.row.C.Denot test g.C.CountySet.PLACES input c.requires.input first.0) c.requires.input.graph.order (state_at order test c.args.state.now) tested here empty group fits (omega (arith, size, sized.1, c.in-Ok.ensures.at.2))
