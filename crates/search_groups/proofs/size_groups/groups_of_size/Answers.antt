use Rattle.std.proofs.Common.{length, refl, ◌∙◌, subst}
use Rattle.std.proofs.lemmas.Result.{IfOk-weaker}
use Rattle.grouping_laws.specs.Places.{codes_at}
use Rattle.grouping_laws.proofs.PlaceProblem.{order_once}
use Rattle.place_sets.specs.PlaceSets.{places_of}
use Rattle.connected_laws.specs.Listing.{lists_of}
use Rattle.connected_laws.proofs.Keys.{map_twice}
use Rattle.county_problem.specs.ProblemValue.{problem_of}
use Rattle.county_problem.specs.OrderedValue.{problem_at}
use Rattle.certificate_data.specs.RoundValue.{round_of}
use Rattle.state_groups.specs.StateValue.{state_of}
use Rattle.certificate_laws.specs.Groups.{AreGroupsOf}
use Rattle.certificate_laws.specs.Places.{IsStateAt, in_codes}
use Rattle.certificate_laws.proofs.PlaceStates.{states_have_codes}
use Rattle.state_groups.specs.PlacedValues.{codes_of_sets}
use Rattle.state_groups.proofs.OpenCounties.{groups_by_codes}
use Rattle.search_groups.specs.PartLists.{AreNextGroups}
use Rattle.search_groups.proofs.NextSize.{next_by_places}
use Rattle.search_groups.proofs.size_groups.groups_of_size.Goals as goal

pub returns-then-branch-clause-groups : goal.returns-then-branch-clause-groups
returns-then-branch-clause-groups g c =
    let test = g.C.CountySet.test in
    let order = c.args.graph.now.ordered.now.order in
    let p = problem_of c.args.graph.now.ordered.now.problem in
    let t = state_of test c.args.state.now in
    let size = c.args.size in
    let round = round_of c.args.round.now in
    let whole = c.requires.graph.order in
    let at : IsStateAt order (in_codes order t) t = states_have_codes.there order t (order_once p order whole) c.requires.placed.rest in
    let next = next_by_places p order (in_codes order t) t size c.args.round.now.format c.requires.wide whole at c.requires.none c.requires.no_stuck (c.in_ok-all_open.ensures c.if-branch.true) in
    IfOk-weaker c.rest_groups.result
    (λ v. AreNextGroups test (problem_at c.args.graph.now.ordered.now) (length order) (test c.args.state.now.rest) size v.items)
    (λ v. AreGroupsOf p round (in_codes order t) size (codes_of_sets order test v.items))
    (λ v are. subst (λ z. AreGroupsOf p round (in_codes order t) size z) (map_twice (codes_at order) (λ (z : g.row.C.Denot). places_of (length order) (test z)) v.items)
    (groups_by_codes p order round (in_codes order t) t size (lists_of (length order) test v.items) c.requires.order whole at (λ r placed wide. are t refl next r placed (wide ∙ c.requires.wide))))
    c.rest_groups.ensures.groups
