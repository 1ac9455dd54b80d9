use Rattle.std.proofs.Common.{◌≡◌, length, subst}
use Rattle.std.proofs.lemmas.Result.{IfOk-weaker}
use Rattle.grouping_laws.specs.Places.{places_below, codes_at}
use Rattle.grouping_laws.proofs.PlaceProblem.{order_once}
use Rattle.place_sets.specs.PlaceSets.{places_of}
use Rattle.connected_laws.specs.Listing.{lists_of}
use Rattle.connected_laws.proofs.Keys.{map_twice}
use Rattle.county_problem.specs.ProblemValue.{problem_of}
use Rattle.county_problem.specs.OrderedValue.{problem_at}
use Rattle.certificate_data.specs.Round.{Round}
use Rattle.certificate_data.specs.RoundValue.{round_of}
use Rattle.state_groups.specs.StateValue.{state_of}
use Rattle.certificate_laws.specs.Groups.{AreGroupsOf}
use Rattle.certificate_laws.specs.Places.{IsStateAt, in_codes}
use Rattle.certificate_laws.proofs.PlaceStates.{states_have_codes}
use Rattle.state_groups.specs.PlacedValues.{codes_of_sets}
use Rattle.state_groups.proofs.OpenCounties.{groups_by_codes}
use Rattle.state_groups.proofs.round_groups.all_groups_of_size.Goals as goal

pub returns-clause-groups : goal.returns-clause-groups
returns-clause-groups g c =
    let test = g.C.CountySet.test in
    let order = c.args.graph.now.ordered.now.order in
    let p = problem_of c.args.graph.now.ordered.now.problem in
    let t = state_of test c.args.state.now in
    let size = c.args.size in
    let round = round_of c.args.round.now in
    let whole = c.requires.graph.order in
    let at : IsStateAt order (in_codes order t) t = states_have_codes.there order t (order_once p order whole) c.requires.placed.rest in
    IfOk-weaker c.groups_of.result
    (λ v. (r : Round) → r.order ≡ places_below (length order) → r.format ≡ c.args.round.now.format → AreGroupsOf (problem_at c.args.graph.now.ordered.now) r t size (lists_of (length order) test v.items))
    (λ v. AreGroupsOf p round (in_codes order t) size (codes_of_sets order test v.items))
    (λ v are. subst (λ z. AreGroupsOf p round (in_codes order t) size z) (map_twice (codes_at order) (λ (z : g.row.C.Denot). places_of (length order) (test z)) v.items) (groups_by_codes p order round (in_codes order t) t size (lists_of (length order) test v.items) c.requires.order whole at are))
    c.groups_of.ensures.groups
