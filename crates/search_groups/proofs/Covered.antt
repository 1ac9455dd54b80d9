-- The places of the groups of a list, together.
use Rattle.std.proofs.Common.{◌≡◌, ℕ, ◌+◌, ◌<◌, Bool, true, false, ◌||◌, List, [], ◌∷◌, ◌++◌, length, take, get_or, subst, inl, inr, ⊎_elim, refl, sym, ap, ◌∙◌, All, Contains, Option, Some, None, MatchOption}
use Rattle.std.proofs.Math.Bool.{or-false}
use Rattle.std.specs.List.{list_any}
use Rattle.std.proofs.lemmas.Bool.{false≢true, or_cases, or_parts}
use Rattle.std.proofs.lemmas.List.{take_more}
use Rattle.std.proofs.lemmas.List.Elements.{All-append}
use Rattle.std.proofs.lemmas.List.Folds.{list_any-append}
use Rattle.grouping_laws.proofs.Elements.{Has, all_from_has, contains_from_has}

any_has : {X : Type 0} (q : X → Bool) (xs : List X) → list_any q xs ≡ true → (x : X) × Has xs x × (q x ≡ true)
any_has q [] e = absurd (false≢true e)
any_has {X = X} q (y ∷ ys) e = ⊎_elim (λ k. (y, inl refl, k)) (λ k. let r = any_has q ys k in (r.0, inr r.1, r.2)) (or_cases (q y) (list_any q ys) e)

none_has : {X : Type 0} (q : X → Bool) (xs : List X) → list_any q xs ≡ false → (x : X) → Has xs x → q x ≡ false
none_has q [] e x h = absurd h
none_has q (y ∷ ys) e x (inl k) = ap q (sym k) ∙ (or_parts (q y) (list_any q ys) e).0
none_has q (y ∷ ys) e x (inr h) = none_has q ys (or_parts (q y) (list_any q ys) e).1 x h

module _ (C : Type 0) (test : C → ℕ → Bool) (groups : List C) (all : ℕ → Bool) (covers : (x : ℕ) → all x ≡ list_any (λ g. test g x) groups) where
  -- each is of some group
  pub covered_group : (x : ℕ) → all x ≡ true → (g : C) × Contains groups g × (test g x ≡ true)
  covered_group x e =
      let h = any_has (λ g. test g x) groups (sym (covers x) ∙ e) in
      (h.0, contains_from_has groups h.0 h.1, h.2)

  -- where there are none, no group has one
  pub covered_none : ((x : ℕ) → all x ≡ false) → All (λ g. (x : ℕ) → test g x ≡ false) groups
  covered_none none = all_from_has (λ g. (x : ℕ) → test g x ≡ false) groups (λ g h x. none_has (λ z. test z x) groups (sym (covers x) ∙ none x) g h)

  -- a place of theirs is one of a group
  pub covered_choice : (o : Option ℕ) → MatchOption o ((x : ℕ) → all x ≡ false) (λ place. all place ≡ true) → MatchOption o (All (λ g. (x : ℕ) → test g x ≡ false) groups) (λ place. (g : C) × Contains groups g × (test g place ≡ true))
  covered_choice None none = covered_none none
  covered_choice (Some place) e = covered_group place e

-- the places of one more group
pub covers_more : (C : Type 0) (test : C → ℕ → Bool) (groups : List C) (i : ℕ) (group : C) (old new : ℕ → Bool) → i < length groups → group ≡ get_or groups i group → ((x : ℕ) → old x ≡ list_any (λ g. test g x) (take i groups)) → ((x : ℕ) → new x ≡ (old x || test group x))
    → (x : ℕ) → new x ≡ list_any (λ g. test g x) (take (i + 1) groups)
covers_more C test groups i group old new below at so_far more x =
    let q = λ (g : C). test g x in
    let last : test group x ≡ list_any q (get_or groups i group ∷ []) = ap q at ∙ sym (or-false (q (get_or groups i group))) in
    more x ∙ (ap (λ z. z || test group x) (so_far x) ∙ (ap (λ z. list_any q (take i groups) || z) last ∙ (sym (list_any-append q (take i groups) (get_or groups i group ∷ [])) ∙ ap (list_any q) (sym (take_more groups i group below)))))

-- one more weight
pub one_more : (P : ℕ → Type 0) (xs : List ℕ) (x : ℕ) → All P xs → P x → All P (xs ++ x ∷ [])
one_more P xs x h k = All-append P xs (x ∷ []) h (all_from_has P (x ∷ []) (λ y i. ⊎_elim (λ e. subst P e k) (λ (n : ⊥). absurd n) i))
