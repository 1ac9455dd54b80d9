use Rattle.std.proofs.Common.{subst}
use Rattle.county_problem.specs.OrderedValue.{code_at}
use Rattle.state_groups.specs.PlacedValues.{codes_of_sets}
use Rattle.certificate_laws.specs.Fitting.{IsLive}
use Rattle.search_groups.specs.KnownGroups.{AreThose, Has}
use Rattle.search_groups.specs.Positions.{search_problem, search_state}
use Rattle.search_groups.proofs.Positions.{taken_groups}
use Rattle.search_groups.proofs.moves.groups_to_take.Goals as goal

pub returns-in-Ok-clause-groups : goal.returns-in-Ok-clause-groups
returns-in-Ok-clause-groups g c =
    let test = g.C.CountySet.test in
    let input = c.args.input.now in
    let at = c.args.position.now in
    let order = input.graph.now.ordered.now.order in
    let place = code_at order c.args.place in
    let having = c.in_ok-having.having.items in
    let found = codes_of_sets order test c.in-Ok.groups.items in
    taken_groups g.row.C.Denot test g.C.CountySet.PLACES input c.requires.input (search_state input test at.state) at place (codes_of_sets order test having) found c.requires.at
    (subst (λ z. AreThose order (Has place) (codes_of_sets order test z) (codes_of_sets order test having)) c.deref.ensures.value c.in_ok-having.ensures.those)
    (subst (λ z. AreThose order (IsLive (search_problem input) (search_state input test at.state)) (codes_of_sets order test z) found) c.deref-2.ensures.value c.in-Ok.ensures.those)
