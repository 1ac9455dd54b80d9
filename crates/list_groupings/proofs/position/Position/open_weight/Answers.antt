use Rattle.std.proofs.Common.{◌≡◌, ◌+◌, cond, List, filter, take, nat_le, ap, ◌∙◌, arith, take_all}
use Rattle.grouping_laws.specs.Sets.{sum_by}
use Rattle.state_judge.specs.Weights.{county_weight}
use Rattle.list_groupings.specs.declared.position.Waiting.{Waiting}
use Rattle.list_groupings.proofs.PositionLemmas.{within, beyond, kept_more, open_total}
use Rattle.list_groupings.proofs.position.Position.open_weight.Goals.{then-waiting-size, else-waiting-size}
use Rattle.list_groupings.proofs.position.Position.open_weight.Goals as goal

pub loop-waiting-preserved : goal.loop-waiting-preserved
loop-waiting-preserved c =
    let q = λ (w : Waiting). nat_le w.least c.args.size in
    let f = λ (w : Waiting). county_weight c.args.weights.now w.code in
    let xs = c.deref-waiting-items.result.now in
    let i = c.loop-waiting.waiting-index in
    let x = c.waiting-item.result in
    let more : sum_by f (filter q (take (i + 1) xs)) ≡ sum_by f (filter q (take i xs)) + cond (q x) (f x) 0 = kept_more q f xs i x c.waiting-item.is c.loop-waiting-test.true in
    let inv = c.loop-waiting.invariant.sum in
    elim c.if-waiting-size.branch [
      | then-waiting-size w ↦ record { sum = let here : cond (q x) (f x) 0 ≡ f x = within x.least c.args.size (f x) (omega arith) in omega (arith, w.weight-is, w.weight_of.ensures, inv, more, here); few = omega (arith, w.weight-is, c.loop-waiting.invariant.few) }
      | else-waiting-size w ↦ record { sum = let here : cond (q x) (f x) 0 ≡ 0 = beyond x.least c.args.size (f x) (omega arith) in omega (arith, w.weight-is, inv, more, here); few = omega (arith, w.weight-is, c.loop-waiting.invariant.few) }
    ]

pub returns : goal.returns
returns c = λ p s h.
    let q = λ (w : Waiting). nat_le w.least c.args.size in
    let f = λ (w : Waiting). county_weight c.args.weights.now w.code in
    c.loop-waiting.invariant.sum
    ∙ (ap (λ (l : List Waiting). sum_by f (filter q l)) (take_all c.loop-waiting.waiting-index c.deref-waiting-items.result.now (omega (arith, c.loop-waiting-test.false)) ∙ c.deref-waiting-items.ensures.value)
    ∙ open_total (county_weight c.args.weights.now) p s c.args.self.now c.args.size h)
