-- What searches in lists of codes say.
use Rattle.std.proofs.Common.{◌≡◌, ℕ, ◌+◌, ◌≤◌, ◌==◌, Bool, true, false, not, cond, ◌||◌, List, [], ◌∷◌, ◌++◌, None, Some, if◌then◌else◌, refl, sym, ap, ◌∙◌, subst, arith, append_assoc}
use Rattle.std.proofs.lemmas.Bool.{eqb-true, eq-eqb, false≢true}
use Rattle.place_sets.specs.Lists.{indicator, count, contains}
use Rattle.county_codes.specs.CodeLists.{repeated_after, first_unlisted}
use Rattle.place_sets.proofs.Sums.{sum_by-append, often_none, often_some}

-- a code that doesn't stand before stands once more at most
often_added : (before : List ℕ) (x c : ℕ) → contains before x ≡ false → count c before ≤ 1 → count c (before ++ x ∷ []) ≤ 1
often_added before x c out h = go (x == c) refl
  where
    go : (b : Bool) → (x == c) ≡ b → count c (before ++ x ∷ []) ≤ 1
    go true e =
        let same : x ≡ c = eqb-true x c e in
        let none : count c before ≡ 0 = subst (λ (z : ℕ). count z before ≡ 0) same (often_none x before out) in
        rw (sum_by-append (λ y. indicator (y == c)) before (x ∷ []), e) (omega (arith, none))
    go false e = rw (sum_by-append (λ y. indicator (y == c)) before (x ∷ []), e) (omega (arith, h))

-- where no code is repeated, each stands once
pub repeated_none : (before codes : List ℕ) → repeated_after before codes ≡ None → (c : ℕ) → count c before ≤ 1 → count c (before ++ codes) ≤ 1
repeated_none before [] none c h = rw (sum_by-append (λ y. indicator (y == c)) before []) (omega (arith, h))
repeated_none before (x ∷ xs) none c h = go (contains before x) refl none (λ n k. repeated_none (before ++ x ∷ []) xs n c k)
  where
    go : (b : Bool) → contains before x ≡ b → (if b then Some x else repeated_after (before ++ x ∷ []) xs) ≡ None
        → (repeated_after (before ++ x ∷ []) xs ≡ None → count c (before ++ x ∷ []) ≤ 1 → count c ((before ++ x ∷ []) ++ xs) ≤ 1)
        → count c (before ++ x ∷ xs) ≤ 1
    go true e n k = cc
    go false e n k = subst (λ (l : List ℕ). count c l ≤ 1) (append_assoc before (x ∷ []) xs) (k n (often_added before x c e h))

-- where no code is unlisted, all are listed
pub unlisted_none : (listed codes : List ℕ) → first_unlisted listed codes ≡ None → (c : ℕ) → contains codes c ≡ true → contains listed c ≡ true
unlisted_none listed [] none c m = absurd (false≢true m)
unlisted_none listed (x ∷ xs) none c m = go (contains listed x) refl (x == c) refl none m (λ n k. unlisted_none listed xs n c k)
  where
    go : (b : Bool) → contains listed x ≡ b → (d : Bool) → (x == c) ≡ d → cond (not b) (Some x) (first_unlisted listed xs) ≡ None → (d || contains xs c) ≡ true
        → (first_unlisted listed xs ≡ None → contains xs c ≡ true → contains listed c ≡ true) → contains listed c ≡ true
    go false e d f k i next = absurd cc
    go true e true f k i next = ap (contains listed) (sym (eqb-true x c f)) ∙ e
    go true e false f k i next = next k i

-- the first unlisted code is one
pub unlisted_some : (listed codes : List ℕ) (c : ℕ) → first_unlisted listed codes ≡ Some c → (contains codes c ≡ true) × (contains listed c ≡ false)
unlisted_some listed [] c some = absurd cc
unlisted_some listed (x ∷ xs) c some = go (contains listed x) refl some (unlisted_some listed xs c)
  where
    one_more : (b : Bool) → contains xs c ≡ true → (b || contains xs c) ≡ true
    one_more true e = refl
    one_more false e = e

    go : (b : Bool) → contains listed x ≡ b → cond (not b) (Some x) (first_unlisted listed xs) ≡ Some c → (first_unlisted listed xs ≡ Some c → (contains xs c ≡ true) × (contains listed c ≡ false)) → (contains (x ∷ xs) c ≡ true) × (contains listed c ≡ false)
    go false e k next =
        let same : x ≡ c = cc in
        (ap (λ b. b || contains xs c) (eq-eqb x c same), ap (contains listed) (sym same) ∙ e)
    go true e k next = let r = next k in (one_more (x == c) r.0, r.1)

-- a repeated code stands twice
pub repeated_some : (before codes : List ℕ) (c : ℕ) → repeated_after before codes ≡ Some c → 2 ≤ count c (before ++ codes)
repeated_some before [] c some = absurd cc
repeated_some before (x ∷ xs) c some = go (contains before x) refl some (repeated_some (before ++ x ∷ []) xs c)
  where
    counted : (y : ℕ) → count y (before ++ x ∷ xs) ≡ count y before + (indicator (x == y) + count y xs)
    counted y = sum_by-append (λ z. indicator (z == y)) before (x ∷ xs)

    go : (b : Bool) → contains before x ≡ b → (if b then Some x else repeated_after (before ++ x ∷ []) xs) ≡ Some c
        → (repeated_after (before ++ x ∷ []) xs ≡ Some c → 2 ≤ count c ((before ++ x ∷ []) ++ xs)) → 2 ≤ count c (before ++ x ∷ xs)
    go true e k next =
        let same : x ≡ c = cc in
        subst (λ y. 2 ≤ count y (before ++ x ∷ xs)) same (omega (arith, counted x, often_some x before e, ap indicator (eq-eqb x x refl)))
    go false e k next =
        omega (arith, next k, counted c, sum_by-append (λ z. indicator (z == c)) (before ++ x ∷ []) xs, sum_by-append (λ z. indicator (z == c)) before (x ∷ []))
