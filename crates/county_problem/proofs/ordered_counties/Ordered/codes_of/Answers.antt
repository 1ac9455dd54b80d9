use Rattle.std.proofs.Common.{◌≡◌, ◌≤◌, ℕ, List, All, sym, ap, ◌∙◌, subst}
use Rattle.std.proofs.lemmas.List.Elements.{All-push}
use Rattle.county_problem.proofs.CodesInOrder.{codes_in, codes_out}
use Rattle.county_problem.proofs.ordered_counties.Ordered.codes_of.Goals.{then-has+in_ok-push, else-has}
use Rattle.county_problem.proofs.ordered_counties.Ordered.codes_of.Goals as goal

pub loop-place-preserved : goal.loop-place-preserved
loop-place-preserved g c =
    let t = g.C.CountySet.test c.args.set.now in
    let order = c.args.self.now.order in
    let i = c.loop-place.place in
    let olds = c.loop-place.codes.items in
    elim c.if-has.branch [
      | then-has+in_ok-push w ↦
          let push = ap (λ z. z.items) w.codes-is ∙ w.in_ok-push.ensures.items in
          record {
            value = codes_in order t i w.code-code.result olds c.if-has.codes.items (sym c.has.ensures.test ∙ w.if-has.true) w.code-code.ensures push c.loop-place.invariant.value;
            small = subst (All (λ z. z ≤ 99999)) (sym push) (All-push (λ z. z ≤ 99999) olds w.code-code.result c.loop-place.invariant.small (subst (λ z. z ≤ 99999) w.get-small.ensures.value w.get-small.ensures.small));
          }
      | else-has w ↦
          let same : c.if-has.codes.items ≡ olds = ap (λ z. z.items) w.codes-is in
          record {
            value = same ∙ codes_out order t i olds (sym c.has.ensures.test ∙ w.if-has.false) c.loop-place.invariant.value;
            small = subst (λ (z : List ℕ). All (λ x. x ≤ 99999) z) (sym same) c.loop-place.invariant.small;
          }
    ]
