use Rattle.std.proofs.Common.{subst, arith}
use Rattle.state_groups.specs.PlacedValues.{codes_of_sets}
use Rattle.certificate_laws.specs.Fitting.{IsLive}
use Rattle.search_groups.specs.KnownGroups.{AreThose}
use Rattle.search_groups.specs.Positions.{search_problem, search_state}
use Rattle.search_groups.proofs.NextMoves.{none_at, larger_fit}
use Rattle.search_groups.proofs.groups_ahead.next_groups.Goals as goal

pub groups_of_size-requires-clause-none : goal.groups_of_size-requires-clause-none
groups_of_size-requires-clause-none g c = λ group fits small.
    none_at g.row.C.Denot g.C.CountySet.test g.C.CountySet.PLACES c.args.input.now c.requires.input c.requires.input.graph.order (search_state c.args.input.now g.C.CountySet.test c.args.position.now.state) c.args.position.now c.requires.at c.requires.none group fits (omega (arith, small))

pub returns-in-Ok-clause-groups : goal.returns-in-Ok-clause-groups
returns-in-Ok-clause-groups g c =
    let test = g.C.CountySet.test in
    let input = c.args.input.now in
    let order = input.graph.now.ordered.now.order in
    let at = c.args.position.now in
    larger_fit g.row.C.Denot test g.C.CountySet.PLACES input c.requires.input c.requires.input.graph.order (search_state input test at.state) at c.requires.at c.in-Some.larger (codes_of_sets order test c.in-Ok.groups.items) (rw c.in-Some.is at c.requires.at.larger)
    (subst (λ z. AreThose order (IsLive (search_problem input) (search_state input test at.state)) (codes_of_sets order test z) (codes_of_sets order test c.in-Ok.groups.items)) c.deref.ensures.value c.in-Ok.ensures.those)
