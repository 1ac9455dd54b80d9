use Rattle.std.proofs.Common.{ℕ, ◌+◌, ap, ◌∙◌, sym, length, get_or, arith}
use Rattle.place_sets.specs.Lists.{sum_by}
use Rattle.place_sets.specs.PlaceSets.{places_of}
use Rattle.state_groups.proofs.SumLemmas.{sum_next, sum_all}
use Rattle.state_groups.proofs.sums.weight_in.Goals as goal

pub loop-place-preserved : goal.loop-place-preserved
loop-place-preserved g c =
    let f = λ (i : ℕ). get_or c.args.weights.now i 0 in
    let t = g.C.CountySet.test c.args.set.now in
    let least = c.in-Some.ensures.least in
    let next = sum_next f t c.loop-place.from c.in-Some.place least.0 least.1 least.2 in
    let there = ap (λ z. get_or c.args.weights.now z 0) c.from.ensures in
    record {
      sum = omega (arith, next, there, ap (λ z. sum_by f (places_of (z + 1) t)) c.from-from.ensures, c.loop-place.invariant.sum, c.from-weight.ensures);
      within = omega (arith, c.requires.below c.in-Some.place least.1, c.from-from.ensures);
      small = omega (arith, c.loop-place.invariant.small, c.type_inv.weights c.from.result, c.from-weight.ensures, c.from-from.ensures, least.0);
    }

pub returns : goal.returns
returns g c = c.loop-place.invariant.sum ∙ sym (sum_all (λ i. get_or c.args.weights.now i 0) (g.C.CountySet.test c.args.set.now) c.loop-place.from (length c.args.weights.now) c.loop-place.invariant.within c.in_default.ensures.least)
