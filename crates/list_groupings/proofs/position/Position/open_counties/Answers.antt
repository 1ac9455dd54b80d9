use Rattle.std.proofs.Common.{◌≡◌, ◌+◌, cond, List, filter, take, nat_le, ap, ◌∙◌, arith, take_all}
use Rattle.grouping_laws.specs.Sets.{sum_by}
use Rattle.list_groupings.specs.declared.position.Waiting.{Waiting}
use Rattle.list_groupings.proofs.PositionLemmas.{within, beyond, kept_more, kept_number, open_number}
use Rattle.list_groupings.proofs.position.Position.open_counties.Goals.{then-waiting-size, else-waiting-size}
use Rattle.list_groupings.proofs.position.Position.open_counties.Goals as goal

pub loop-waiting-preserved : goal.loop-waiting-preserved
loop-waiting-preserved c =
    let q = λ (w : Waiting). nat_le w.least c.args.size in
    let xs = c.deref-waiting-items.result.now in
    let i = c.loop-waiting.waiting-index in
    let x = c.waiting-item.result in
    let more : sum_by (λ w. 1) (filter q (take (i + 1) xs)) ≡ sum_by (λ w. 1) (filter q (take i xs)) + cond (q x) 1 0 = kept_more q (λ w. 1) xs i x c.waiting-item.is c.loop-waiting-test.true in
    let inv = c.loop-waiting.invariant.sum in
    elim c.if-waiting-size.branch [
      | then-waiting-size w ↦ record { sum = let here : cond (q x) 1 0 ≡ 1 = within x.least c.args.size 1 (omega arith) in omega (arith, w.count-is, inv, more, here); few = omega (arith, w.count-is, c.loop-waiting.invariant.few) }
      | else-waiting-size w ↦ record { sum = let here : cond (q x) 1 0 ≡ 0 = beyond x.least c.args.size 1 (omega arith) in omega (arith, w.count-is, inv, more, here); few = omega (arith, w.count-is, c.loop-waiting.invariant.few) }
    ]

pub returns : goal.returns
returns c = λ p s h.
    let q = λ (w : Waiting). nat_le w.least c.args.size in
    c.loop-waiting.invariant.sum
    ∙ (ap (λ (l : List Waiting). sum_by (λ w. 1) (filter q l)) (take_all c.loop-waiting.waiting-index c.deref-waiting-items.result.now (omega (arith, c.loop-waiting-test.false)) ∙ c.deref-waiting-items.ensures.value)
    ∙ (kept_number q c.args.self.now.rest.items ∙ open_number p s c.args.self.now c.args.size h))
