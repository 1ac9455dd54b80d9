use Rattle.std.proofs.Common.{◌≡◌, ℕ, ◌-◌, sym, ap, ◌∙◌, subst, length, filter, take, arith}
use Rattle.grouping_laws.specs.Sets.{sum_by}
use Rattle.place_sets.specs.PlaceSets.{places_of}
use Rattle.county_problem.specs.OrderedValue.{problem_at}
use Rattle.state_groups.specs.People.{AreByPeople}
use Rattle.state_groups.proofs.PeopleBounds.{first_all, most_joins}
use Rattle.state_groups.proofs.passing.most_more.Goals as goal

pub overflow_sub-result : goal.overflow_sub-result
overflow_sub-result g c =
    let p = problem_at c.args.input.now.graph.now.ordered.now in
    let n = length c.args.input.now.graph.now.ordered.now.order in
    let reach = g.C.CountySet.test c.args.reach.now in
    let are : AreByPeople p n reach c.deref.result.now = subst (AreByPeople p n reach) (sym c.deref.ensures.value) c.requires.places in
    let all = first_all p n reach c.deref.result.now are reach (λ x e. e) c.requires.below c.saturating_sub-others.result in
    omega (arith, c.first_people.ensures.sum, all, c.people_in.ensures.value)

pub returns-clause-greatest : goal.returns-clause-greatest
returns-clause-greatest g c =
    let p = problem_at c.args.input.now.graph.now.ordered.now in
    let n = length c.args.input.now.graph.now.ordered.now.order in
    let reach = g.C.CountySet.test c.args.reach.now in
    let are : AreByPeople p n reach c.deref.result.now = subst (AreByPeople p n reach) (sym c.deref.ensures.value) c.requires.places in
    let others : c.saturating_sub-others.result ≡ length (places_of n reach) - c.args.more = c.saturating_sub-others.ensures ∙ ap (λ z. z - c.args.more) (c.size.ensures.count n c.requires.below) in
    let same = ap (λ k. sum_by (λ (r : ℕ × ℕ). r.0) (take k (filter (λ (r : ℕ × ℕ). reach r.1) c.deref.result.now))) others in
    λ joins within few.
    let most = most_joins p n reach c.deref.result.now are reach (λ x e. e) c.requires.below joins within c.args.more few in
    omega (arith, c.first_people.ensures.sum, same, most, c.people_in.ensures.value)
