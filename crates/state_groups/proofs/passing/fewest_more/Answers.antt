use Rattle.std.proofs.Common.{◌≡◌, true, sym, subst, length, arith, rules}
use Rattle.county_problem.specs.OrderedValue.{problem_at}
use Rattle.state_groups.specs.People.{AreByPeople}
use Rattle.state_groups.proofs.PeopleBounds.{least_joins}
use Rattle.state_groups.proofs.passing.fewest_more.Goals as goal

pub returns-clause-least : goal.returns-clause-least
returns-clause-least g c =
    let p = problem_at c.args.input.now.graph.now.ordered.now in
    let n = length c.args.input.now.graph.now.ordered.now.order in
    let reach = g.C.CountySet.test c.args.reach.now in
    let are : AreByPeople p n reach c.deref.result.now = subst (AreByPeople p n reach) (sym c.deref.ensures.value) c.requires.places in
    let exact : c.args.test.now.exact ≡ true = search (rules, c.if-not-test.false) in
    λ joins within size.
    let least = least_joins p n reach c.deref.result.now are reach (λ x e. e) c.requires.below joins within c.args.more (omega (arith, size exact)) in
    omega (arith, c.first_people.ensures.sum, least)
