use Rattle.std.proofs.Common.{◌+◌, append-nil, ◌≡◌, ℕ, ◌∷◌, ◌++◌, [], List, cond, ap, sym, ◌∙◌}
use Rattle.place_sets.specs.PlaceSets.{places_of}
use Rattle.place_sets.proofs.PlaceSums.{places_step}
use Rattle.connected_sets.proofs.lists.place_list.Goals.{then-has+in_ok-push, else-has}
use Rattle.connected_sets.proofs.lists.place_list.Goals as goal

pub loop-place-preserved : goal.loop-place-preserved
loop-place-preserved g c =
    let t = g.C.CountySet.test c.args.set.now in
    let i = c.loop-place.place in
    elim c.if-has.branch [
      | then-has+in_ok-push w ↦
          let taken : cond (t i) (i ∷ []) [] ≡ i ∷ [] = ap (λ b. cond b (i ∷ []) []) (sym c.has.ensures.test ∙ w.if-has.true) in
          let all : places_of (i + 1) t ≡ places_of i t ++ i ∷ [] = places_step t i ∙ ap (λ z. places_of i t ++ z) taken in
          ap (λ z. z.items) w.list-is ∙ (w.in_ok-push.ensures.ok ∙ (ap (λ (z : List ℕ). z ++ i ∷ []) c.loop-place.invariant ∙ sym all))
      | else-has w ↦
          let left : cond (t i) (i ∷ []) [] ≡ [] = ap (λ b. cond b (i ∷ []) []) (sym c.has.ensures.test ∙ w.if-has.false) in
          let all : places_of (i + 1) t ≡ places_of i t = places_step t i ∙ (ap (λ z. places_of i t ++ z) left ∙ append-nil (places_of i t)) in
          ap (λ z. z.items) w.list-is ∙ (c.loop-place.invariant ∙ sym all)
    ]
