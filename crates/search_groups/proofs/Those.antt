-- Lists of those groups of a list that have a property, made one by one or by a filter.
use Rattle.std.proofs.Common.{◌≡◌, ℕ, ◌+◌, ◌≤◌, ◌<◌, List, [], ◌∷◌, ◌++◌, map, take, length, get_or, sym, ap, ◌∙◌, subst, arith, inl, inr, ⊎_elim, AllPairs, Contains}
use Rattle.std.proofs.lemmas.List.{map-append, take_more, take_all}
use Rattle.grouping_laws.specs.GroupsFrom.{IsBefore}
use Rattle.grouping_laws.proofs.Elements.{Has, has_append, has_left, has_right, has_from_contains, contains_from_has}
use Rattle.certificate_laws.proofs.Kept.{head_before, tail_pairs, cons_pairs, pairs_append}
use Rattle.search_groups.specs.KnownGroups.{AreThose}

no_pairs : {X : Type 0} (R : X → X → Type 0) → AllPairs R []
no_pairs R = λ i j d l m. absurd (omega (arith, m))

pairs_left : {X : Type 0} (R : X → X → Type 0) (xs ys : List X) → AllPairs R (xs ++ ys) → AllPairs R xs
pairs_left R [] ys a = no_pairs R
pairs_left R (x ∷ xs) ys a = cons_pairs R x xs (λ y h. head_before R x (xs ++ ys) a y (has_left xs ys y h)) (pairs_left R xs ys (tail_pairs R x (xs ++ ys) a))

pairs_across : {X : Type 0} (R : X → X → Type 0) (xs ys : List X) → AllPairs R (xs ++ ys) → (x : X) → Has xs x → (y : X) → Has ys y → R x y
pairs_across R [] ys a x h y k = absurd h
pairs_across R (z ∷ xs) ys a x (inl e) y k = subst (λ w. R w y) e (head_before R z (xs ++ ys) a y (has_right xs ys y k))
pairs_across R (z ∷ xs) ys a x (inr h) y k = pairs_across R xs ys (tail_pairs R z (xs ++ ys) a) x h y k

one_has : {X : Type 0} (x y : X) → Has (x ∷ []) y → x ≡ y
one_has x y (inl e) = e
one_has x y (inr h) = absurd h

pub those_none : (order : List ℕ) (Is : List ℕ → Type 0) → AreThose order Is [] []
those_none order Is = record { each = λ g. (λ h. absurd (has_from_contains [] g h), λ h. h.0); in_turn = λ a. a }

-- one more group of the list, which has the property
those_in : (order : List ℕ) (Is : List ℕ → Type 0) (groups those : List (List ℕ)) (x : List ℕ) → Is x → AreThose order Is groups those → AreThose order Is (groups ++ x ∷ []) (those ++ x ∷ [])
those_in order Is groups those x is are = record { each = λ g. (there g, back g); in_turn = turn }
  where
    there : (g : List ℕ) → Contains (those ++ x ∷ []) g → Contains (groups ++ x ∷ []) g × Is g
    there g h = ⊎_elim
        (λ i. let r = (are.each g).0 (contains_from_has those g i) in (contains_from_has (groups ++ x ∷ []) g (has_left groups (x ∷ []) g (has_from_contains groups g r.0)), r.1))
        (λ i. (contains_from_has (groups ++ x ∷ []) g (has_right groups (x ∷ []) g i), subst Is (one_has x g i) is))
        (has_append those (x ∷ []) g (has_from_contains (those ++ x ∷ []) g h))

    back : (g : List ℕ) → Contains (groups ++ x ∷ []) g × Is g → Contains (those ++ x ∷ []) g
    back g h = contains_from_has (those ++ x ∷ []) g (⊎_elim
        (λ i. has_left those (x ∷ []) g (has_from_contains those g ((are.each g).1 (contains_from_has groups g i, h.1))))
        (λ i. has_right those (x ∷ []) g i)
        (has_append groups (x ∷ []) g (has_from_contains (groups ++ x ∷ []) g h.0)))

    turn : AllPairs (IsBefore order) (groups ++ x ∷ []) → AllPairs (IsBefore order) (those ++ x ∷ [])
    turn a = pairs_append (IsBefore order) those (x ∷ []) (are.in_turn (pairs_left (IsBefore order) groups (x ∷ []) a)) (cons_pairs (IsBefore order) x [] (λ y h. absurd h) (no_pairs (IsBefore order)))
        (λ y h z k. pairs_across (IsBefore order) groups (x ∷ []) a y (has_from_contains groups y ((are.each y).0 (contains_from_has those y h)).0) z k)

-- one more, which hasn't
those_out : (order : List ℕ) (Is : List ℕ → Type 0) (groups those : List (List ℕ)) (x : List ℕ) → (Is x → ⊥) → AreThose order Is groups those → AreThose order Is (groups ++ x ∷ []) those
those_out order Is groups those x isnt are = record {
  each = λ g. (
    λ h. let r = (are.each g).0 h in (contains_from_has (groups ++ x ∷ []) g (has_left groups (x ∷ []) g (has_from_contains groups g r.0)), r.1),
    λ h. ⊎_elim (λ i. (are.each g).1 (contains_from_has groups g i, h.1)) (λ i. absurd (isnt (subst Is (sym (one_has x g i)) h.1))) (has_append groups (x ∷ []) g (has_from_contains (groups ++ x ∷ []) g h.0)),
  );
  in_turn = λ a. are.in_turn (pairs_left (IsBefore order) groups (x ∷ []) a);
}

module _ {C : Type 0} (order : List ℕ) (f : C → List ℕ) (Is : List ℕ → Type 0) (groups : List C) where
  onward : (i : ℕ) (item : C) → i < length groups → item ≡ get_or groups i item → map f (take i groups) ++ f item ∷ [] ≡ map f (take (i + 1) groups)
  onward i item l e = sym (ap (map f) (take_more groups i item l ∙ ap (λ z. take i groups ++ z ∷ []) (sym e)) ∙ map-append f (take i groups) (item ∷ []))

  -- what a loop over the groups has come to: those of the groups up to i
  pub step_in : (i : ℕ) (item copy : C) (olds news : List C) → i < length groups → item ≡ get_or groups i item → news ≡ olds ++ copy ∷ [] → f copy ≡ f item → Is (f item) → AreThose order Is (map f (take i groups)) (map f olds) → AreThose order Is (map f (take (i + 1) groups)) (map f news)
  step_in i item copy olds news l e push same is are =
      subst (λ z. AreThose order Is (map f (take (i + 1) groups)) z) (sym (ap (map f) push ∙ (map-append f olds (copy ∷ []) ∙ ap (λ z. map f olds ++ z ∷ []) same)))
      (subst (λ z. AreThose order Is z (map f olds ++ f item ∷ [])) (onward i item l e) (those_in order Is (map f (take i groups)) (map f olds) (f item) is are))

  pub step_out : (i : ℕ) (item : C) (olds : List C) → i < length groups → item ≡ get_or groups i item → (Is (f item) → ⊥) → AreThose order Is (map f (take i groups)) (map f olds) → AreThose order Is (map f (take (i + 1) groups)) (map f olds)
  step_out i item olds l e isnt are = subst (λ z. AreThose order Is z (map f olds)) (onward i item l e) (those_out order Is (map f (take i groups)) (map f olds) (f item) isnt are)

  pub whole_loop : (i : ℕ) (those : List C) → length groups ≤ i → AreThose order Is (map f (take i groups)) (map f those) → AreThose order Is (map f groups) (map f those)
  whole_loop i those over are = subst (λ z. AreThose order Is (map f z) (map f those)) (take_all i groups over) are
