use Rattle.std.proofs.Common.{◌≤◌, ◌∙◌, List, map, length, ap, subst, arith}
use Rattle.std.proofs.lemmas.List.{length-map}
use Rattle.county_codes.specs.declared.county.County.{County}
use Rattle.county_problem.specs.ProblemValue.{problem_of, people_at}
use Rattle.county_problem.specs.Building.{people_in}
use Rattle.grouping_laws.specs.GroupsFrom.{IsOrder}
use Rattle.county_problem.proofs.OrderLemmas.{order_long}
use Rattle.county_problem.proofs.ordered_counties.Ordered.build.Goals as goal

pub invariant_of-result : goal.invariant_of-result
invariant_of-result c =
    let v = c.args.problem.now in
    let named : IsOrder (problem_of v) c.args.order.now = c.in_ok-is_order.ensures.0 c.if-not-branch.false in
    let copied = c.in_ok-to_vec.ensures.items_if_clones_equal (λ x y e. e) in
    let counties = c.counties.ensures.value in
    rw copied (
    record {
      is_order = named;
      is_problem = c.counties.ensures.problem;
      fits = subst (λ (l : List County). people_in l ≤ v.total_people) counties c.counties.ensures.people;
      few = omega (arith, order_long (problem_of v) c.args.order.now c.counties.ensures.problem named, length-map v.counties (λ x. x.code), ap length counties, c.counties.ensures.few);
      people_are = c.in_ok-people_by_place.ensures ∙ ap (λ (l : List County). map (people_at l) c.args.order.now) counties;
      rows_are = c.in_ok-adjacency_rows.ensures;
    }
    )
