-- A list, cut at one of its elements.
use Rattle.std.proofs.Common.{◌≡◌, ℕ, ◌+◌, ◌<◌, suc, List, [], ◌∷◌, ◌++◌, length, take, drop, get_or, ap, sym, ◌∙◌, arith}
use Rattle.std.proofs.lemmas.List.{take_more, take-append-drop}
use Rattle.std.proofs.Math.Seq.{drop-cons}

-- one more item of a list that is gone through in turn
pub taken_more : {X : Type 0} (xs : List X) (i : ℕ) (x : X) → x ≡ get_or xs i x → i < length xs → take (i + 1) xs ≡ take i xs ++ x ∷ []
taken_more xs i x is lt = take_more xs i x lt ∙ ap (λ y. take i xs ++ y ∷ []) (sym is)

left_at : {X : Type 0} (xs : List X) (i : ℕ) (x : X) → x ≡ get_or xs i x → i < length xs → drop i xs ≡ x ∷ drop (i + 1) xs
left_at xs i x is lt =
    let next : suc i ≡ i + 1 = omega arith in
    drop-cons xs i x lt ∙ ap (λ y. y ∷ drop (suc i) xs) (sym is) ∙ ap (λ k. x ∷ drop k xs) next

pub cut_at : {X : Type 0} (xs : List X) (i : ℕ) (x : X) → x ≡ get_or xs i x → i < length xs → take i xs ++ x ∷ drop (i + 1) xs ≡ xs
cut_at xs i x is lt = ap (λ ys. take i xs ++ ys) (sym (left_at xs i x is lt)) ∙ take-append-drop i xs
