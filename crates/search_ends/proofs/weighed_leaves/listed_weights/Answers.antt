use Rattle.std.proofs.Common.{◌≡◌, ◌+◌, [], ◌∷◌, ◌++◌, All, drop, sym, ◌∙◌, ap, subst, arith}
use Rattle.std.proofs.lemmas.List.Elements.{All-push}
use Rattle.std.proofs.lemmas.List.Kept.{AllPairs-from_increasing}
use Rattle.county_codes.specs.Counties.{codes_of}
use Rattle.county_problem.specs.ProblemValue.{ProblemValue, problem_of}
use Rattle.certificate_lines.specs.Fitting.{FitsWeight}
use Rattle.search_ends.specs.PlacedWeights.{placed_weight, weights_above}
use Rattle.search_ends.proofs.WeightSteps.{made_weights, weights_on, weights_past}
use Rattle.search_ends.proofs.weighed_leaves.listed_weights.Goals as goal
use Rattle.search_ends.proofs.weighed_leaves.listed_weights.Goals.{then-weight-gt0+in_ok-push, else-weight-gt0}

pub returns : goal.returns
returns c =
    let order = c.args.ordered.now.order in
    let laws = c.places-places.ensures in
    let counties = c.counties-counties.result.now in
    let inv = c.loop-county.invariant in
    made_weights (problem_of c.args.ordered.now.problem) c.problem.ensures.law order c.args.table.now laws.order (omega (arith, laws.value, laws.few)) counties
    (ap codes_of (c.counties-counties.ensures.value ∙ ap (λ (v : ProblemValue). v.counties) c.problem.ensures.value)) (AllPairs-from_increasing (codes_of counties) c.counties-counties.ensures.by_code)
    c.loop-county.county-index (omega (arith, c.loop-county-test.false)) c.loop-county.weights.items c.new.result inv.same inv.each c.new.ensures

pub loop-county-preserved : goal.loop-county-preserved
loop-county-preserved c =
    let value = placed_weight c.args.ordered.now.order c.args.table.now in
    let counties = c.counties-counties.result.now in
    let k = c.loop-county.county-index in
    let item = c.county-item.result in
    let done = c.loop-county.weights.items in
    let inv = c.loop-county.invariant in
    let weight = c.weight_at-weight in
    let whole = weights_above value (codes_of counties) in
    let left = weights_above value (codes_of (drop (k + 1) counties)) in
    elim c.if-weight-gt0.branch [
      | then-weight-gt0+in_ok-push w ↦
          let pushed = w.in_ok-push.ensures.items in
          let is = pushed ∙ ap (λ z. done ++ record { county = item.code; weight = z } ∷ []) weight.ensures.value in
          let same = weights_on value counties k item done whole c.loop-county-test.true c.county-item.is (omega (arith, weight.ensures.value, w.if-weight-gt0.true)) inv.same in
          let fits : FitsWeight (record { county = item.code; weight = weight.result }) =
          record { county = omega (arith, c.get-small.ensures.value, c.get-small.ensures.small); from = omega (arith, w.if-weight-gt0.true); to = weight.ensures.small } in
          record {
            same = subst (λ z. z.items ++ left ≡ whole) (sym w.weights-is) (subst (λ z. z ++ left ≡ whole) (sym is) same);
            each = subst (λ z. All FitsWeight z.items) (sym w.weights-is) (subst (All FitsWeight) (sym pushed) (All-push FitsWeight done _ inv.each fits));
          }
      | else-weight-gt0 w ↦ record {
        same = subst (λ z. z.items ++ left ≡ whole) (sym w.weights-is) (weights_past value counties k item done whole c.loop-county-test.true c.county-item.is (omega (arith, weight.ensures.value, w.if-weight-gt0.false)) inv.same);
        each = subst (λ z. All FitsWeight z.items) (sym w.weights-is) inv.each;
      }
    ]
