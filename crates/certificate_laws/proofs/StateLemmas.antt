-- The values of states: how a copy, a closing and a beginning stand to the definitions.
use Rattle.std.proofs.Common.{◌≡◌, ℕ, ◌+◌, ◌≤◌, ◌<◌, Bool, true, false, cond, nat_lt, ◌&&◌, List, [], ◌∷◌, ◌++◌, map, get_or, length, refl, sym, ap, ◌∙◌, arith, ⊎_elim}
use Rattle.std.proofs.lemmas.Bool.{lt-ltb, ltb-true, ltb-false, cases_lt}
use Rattle.std.proofs.lemmas.List.{map_push, get_or_past}
use Rattle.grouping_laws.specs.Sets.{contains}
use Rattle.place_sets.specs.PlaceSets.{places_of}
use Rattle.place_sets.specs.Lists.{places_below}
use Rattle.place_sets.proofs.Sums.{often_none, often_some}
use Rattle.place_sets.proofs.PlaceSets.{contains-places_of, often_below, often_above}

-- the places of a set that has only places below n are its own
pub own_places : (n : ℕ) (t : ℕ → Bool) → ((x : ℕ) → t x ≡ true → x < n) → (x : ℕ) → contains (places_of n t) x ≡ t x
own_places n t below x = contains-places_of n x t ∙ go (t x) refl
  where
    go : (b : Bool) → t x ≡ b → (nat_lt x n && t x) ≡ t x
    go true e = ap (λ z. z && t x) (lt-ltb x n (below x e))
    go false e = ap (λ z. nat_lt x n && z) e ∙ (none (nat_lt x n) ∙ sym e)
      where
        none : (b : Bool) → (b && false) ≡ false
        none true = refl
        none false = refl

-- the numbers of a group's places are cleared, also past the end
pub cleared : (xs ys : List ℕ) (t : ℕ → Bool) (n : ℕ) → length xs ≡ n → length ys ≡ n → ((x : ℕ) → t x ≡ true → x < n) → ((x : ℕ) → x < n → get_or ys x 0 ≡ cond (t x) 0 (get_or xs x 0))
    → (x : ℕ) → get_or ys x 0 ≡ cond (contains (places_of n t) x) 0 (get_or xs x 0)
cleared xs ys t n l m below h x = ⊎_elim (λ k. h x k ∙ ap (λ b. cond b 0 (get_or xs x 0)) (sym (own_places n t below x))) past (cases_lt x n)
  where
    none : (b : Bool) (z : ℕ) → z ≡ 0 → z ≡ cond b 0 z
    none true z e = e
    none false z e = refl

    past : n ≤ x → get_or ys x 0 ≡ cond (contains (places_of n t) x) 0 (get_or xs x 0)
    past k =
        let before : get_or xs x 0 ≡ 0 = get_or_past xs x 0 (omega (arith, l)) in
        let after : get_or ys x 0 ≡ 0 = get_or_past ys x 0 (omega (arith, m)) in
        (after ∙ sym before) ∙ none (contains (places_of n t) x) (get_or xs x 0) before

-- the lists of places of sets, where the number of places is said in two ways
pub pushed_places : {X : Type 0} (f : ℕ → X → List ℕ) (xs ys : List X) (x : X) (m n : ℕ) → m ≡ n → ys ≡ xs ++ x ∷ [] → map (f m) ys ≡ map (f n) xs ++ f n x ∷ []
pushed_places f xs ys x m n e h = ap (λ z. map (f z) ys) e ∙ (ap (map (f n)) h ∙ map_push (f n) xs x)

pub copied_places : {X : Type 0} (f : ℕ → X → List ℕ) (xs ys : List X) (m n : ℕ) → m ≡ n → map (f n) ys ≡ map (f n) xs → map (f m) ys ≡ map (f n) xs
copied_places f xs ys m n e h = ap (λ z. map (f z) ys) e ∙ h

-- all places below n
pub all_below : (n : ℕ) (x : ℕ) → nat_lt x n ≡ contains (places_below n) x
all_below n x = go (nat_lt x n) refl (contains (places_below n) x) refl
  where
    go : (a : Bool) → nat_lt x n ≡ a → (b : Bool) → contains (places_below n) x ≡ b → a ≡ b
    go true k true e = refl
    go true k false e = absurd (omega (arith, often_below n x (ltb-true x n k), often_none x (places_below n) e))
    go false k true e = absurd (omega (arith, often_above n x (ltb-false x n k), often_some x (places_below n) e))
    go false k false e = refl
