use Rattle.std.proofs.Common.{◌≤◌, ◌∙◌, List, ℕ, length, get_or, ap, subst, arith, All}
use Rattle.grouping_laws.specs.Sets.{sum_by}
use Rattle.place_sets.specs.PlaceSets.{places_of}
use Rattle.certificate_data.specs.declared.allowance.Allowance.TheVariants.{Weigh}
use Rattle.search_groups.specs.Positions.{search_problem, search_round, search_state}
use Rattle.search_ends.specs.PlacedWeights.{AreTableWeights}
use Rattle.search_ends.proofs.Endings.{given_end}
use Rattle.search_ends.proofs.ShortLines.{complete_end}
use Rattle.search_ends.proofs.WeightSteps.{less_than}
use Rattle.search_ends.proofs.Weighing.{weighed_fewer}
use Rattle.search_ends.proofs.weighed_leaves.weighed_leaf.Goals as goal

pub returns : goal.returns
returns g c =
    let input = c.args.input.now in
    let test = g.C.CountySet.test in
    let order = input.graph.now.ordered.now.order in
    let p = search_problem input in
    let round = search_round input in
    let s = search_state input test c.args.state.now in
    let k = c.in-Some.wanted in
    let sets = c.args.groups.now in
    let quota = c.least_weight-quota.result in
    let ws = c.in_ok-weights.weights in
    let weight = λ (z : List ℕ). sum_by (λ i. get_or z i 0) (places_of (length z) (test c.in_ok-region.region)) in
    let are = subst (λ (z : List ℕ). AreTableWeights order p.counties z ws) c.deref-3.ensures.value c.in_ok-weights.ensures in
    let heavy = subst (λ (z : List ℕ). All (λ (x : g.row.C.Denot). quota ≤ sum_by (λ i. get_or z i 0) (places_of (length z) (test x))) sets) c.deref.ensures.value c.least_weight-quota.ensures.each in
    let less = less_than c.weight_in.result (weight c.in_ok-table.table.items) c.from.result quota c.from-2.result k (c.weight_in.ensures ∙ ap weight c.deref-2.ensures.value) c.from.ensures c.from-2.ensures c.if-weight_in-from.false in
    let fewer = weighed_fewer g.row.C.Denot test p c.problem-problem.ensures.law order c.places-places.ensures.order round c.args.state.now c.requires.at.placed c.args.size k quota c.in_ok-table.table.items ws sets (test c.in_ok-region.region) c.requires.at.order (c.in_ok-table.ensures.count ∙ c.requires.count) are c.requires.known heavy
    (omega (arith, c.if-quota-eq0.false)) c.least_weight-quota.ensures.small c.in_ok-region.ensures less in
    record {
      leaf = given_end p round s c.requires.at.limit c.args.size k (Weigh quota ws) _ c.requires.size c.requires.small c.requires.known.none_below c.in-Some.ensures fewer c.in_ok-ending_leaf.ensures;
      complete = complete_end p round s c.args.size k (Weigh quota ws) _ c.in-Some.ensures fewer c.in_ok-ending_leaf.ensures;
    }
