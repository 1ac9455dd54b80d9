use Rattle.std.proofs.Common.{◌+◌, ap, ◌∙◌, sym, length, arith}
use Rattle.place_sets.specs.Lists.{sum_by}
use Rattle.place_sets.specs.PlaceSets.{places_of}
use Rattle.place_sets.proofs.PlaceSums.{total_all}
use Rattle.county_problem.specs.ProblemValue.{ProblemValue}
use Rattle.county_problem.specs.OrderedValue.{problem_at}
use Rattle.state_groups.proofs.SumLemmas.{sum_next, sum_all, sum_below}
use Rattle.state_groups.proofs.sums.people_in.Goals as goal

pub overflow_add-people : goal.overflow_add-people
overflow_add-people g c =
    let people = (problem_at c.args.ordered.now).people in
    let t = g.C.CountySet.test c.args.set.now in
    let n = length c.args.ordered.now.order in
    let least = c.in-Some.ensures.least in
    let next = sum_next people t c.loop-place.from c.in-Some.place least.0 least.1 least.2 in
    let below = sum_below people t (c.in-Some.place + 1) n (omega (arith, c.requires.below c.in-Some.place least.1)) in
    omega (arith, next, below, total_all people n t, c.places-places.ensures.people, c.total_people-at_most.ensures.value, c.total_people-at_most.ensures.range, ap (λ (v : ProblemValue). v.total_people) c.problem.ensures.value, c.loop-place.invariant.sum, c.people.ensures, c.from-people.ensures)

pub loop-place-preserved : goal.loop-place-preserved
loop-place-preserved g c =
    let people = (problem_at c.args.ordered.now).people in
    let t = g.C.CountySet.test c.args.set.now in
    let least = c.in-Some.ensures.least in
    let next = sum_next people t c.loop-place.from c.in-Some.place least.0 least.1 least.2 in
    record {
      sum = omega (arith, next, ap (λ z. sum_by people (places_of (z + 1) t)) c.from-from.ensures, c.loop-place.invariant.sum, c.people.ensures, c.from-people.ensures);
      within = omega (arith, c.requires.below c.in-Some.place least.1, c.from-from.ensures);
    }

pub returns-clause-value : goal.returns-clause-value
returns-clause-value g c = c.loop-place.invariant.sum ∙ sym (sum_all (problem_at c.args.ordered.now).people (g.C.CountySet.test c.args.set.now) c.loop-place.from (length c.args.ordered.now.order) c.loop-place.invariant.within c.in_default.ensures.least)

pub returns-clause-bound : goal.returns-clause-bound
returns-clause-bound g c =
    let people = (problem_at c.args.ordered.now).people in
    let t = g.C.CountySet.test c.args.set.now in
    let n = length c.args.ordered.now.order in
    omega (arith, sum_below people t c.loop-place.from n c.loop-place.invariant.within, total_all people n t, c.places-places.ensures.people, c.loop-place.invariant.sum)
