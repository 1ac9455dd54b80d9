-- Sets of places of an order, and the codes at them.
use Rattle.std.proofs.Common.{◌≡◌, ℕ, zero, suc, ◌≤◌, ◌<◌, Bool, true, false, cond, ◌||◌, ◌==◌, List, [], ◌∷◌, map, filter, length, get_or, refl, sym, ap, ◌∙◌, arith, inl, inr, All}
use Rattle.std.proofs.lemmas.Bool.{eqb-true, eq-eqb, false≢true}
use Rattle.grouping_laws.specs.Sets.{indicator, count, contains}
use Rattle.grouping_laws.specs.GroupsFrom.{place}
use Rattle.grouping_laws.specs.Places.{places_below, codes_at, PlacesAreCodes}
use Rattle.place_sets.proofs.Sums.{often_some}
use Rattle.grouping_laws.proofs.Elements.{Has, has_all, has_get}

tail_once : (x : ℕ) (xs : List ℕ) → ((c : ℕ) → count c (x ∷ xs) ≤ 1) → (c : ℕ) → count c xs ≤ 1
tail_once x xs h c = omega (arith, h c)

head_absent : (x : ℕ) (xs : List ℕ) → ((c : ℕ) → count c (x ∷ xs) ≤ 1) → contains xs x ≡ false
head_absent x xs h = go (contains xs x) refl
  where
    go : (b : Bool) → contains xs x ≡ b → b ≡ false
    go false e = refl
    go true e = absurd (omega (arith, h x, often_some x xs e, ap indicator (eq-eqb x x refl)))

-- the codes at later places of an order are those of its tail
at_tail : (x : ℕ) (xs places : List ℕ) → codes_at (x ∷ xs) (map suc places) ≡ codes_at xs places
at_tail x xs [] = refl
at_tail x xs (i ∷ is) = ap (λ z. get_or xs i 0 ∷ z) (at_tail x xs is)

-- a test of the places after 0
pub filter_map_suc : (test : ℕ → Bool) (places : List ℕ) → filter test (map suc places) ≡ map suc (filter (λ i. test (suc i)) places)
filter_map_suc test [] = refl
filter_map_suc test (i ∷ is) = go (test (suc i)) (filter_map_suc test is)
  where
    go : (b : Bool) → filter test (map suc is) ≡ map suc (filter (λ i. test (suc i)) is) → cond b (suc i ∷ filter test (map suc is)) (filter test (map suc is)) ≡ map suc (cond b (i ∷ filter (λ i. test (suc i)) is) (filter (λ i. test (suc i)) is))
    go true e = ap (λ z. suc i ∷ z) e
    go false e = e

-- two tests that agree on the members keep the same
pub filter_members : (q r : ℕ → Bool) (xs : List ℕ) → ((c : ℕ) → Has xs c → q c ≡ r c) → filter q xs ≡ filter r xs
filter_members q r [] h = refl
filter_members q r (x ∷ xs) h = go (q x) (r x) (h x (inl refl)) (filter_members q r xs (λ c i. h c (inr i)))
  where
    go : (a b : Bool) → a ≡ b → filter q xs ≡ filter r xs → cond a (x ∷ filter q xs) (filter q xs) ≡ cond b (x ∷ filter r xs) (filter r xs)
    go a b e k = ap (λ z. cond z (x ∷ filter q xs) (filter q xs)) e ∙ ap (λ z. cond b (x ∷ z) z) k

pub has_member : (xs : List ℕ) (c : ℕ) → Has xs c → contains xs c ≡ true
has_member [] c h = absurd h
has_member (x ∷ xs) c (inl e) = ap (λ z. z || contains xs c) (eq-eqb x c e)
has_member (x ∷ xs) c (inr h) = go (x == c) (has_member xs c h)
  where
    go : (b : Bool) → contains xs c ≡ true → (b || contains xs c) ≡ true
    go true e = refl
    go false e = e

-- the place of a later code is one more than its place in the tail
later_place : (x : ℕ) (xs : List ℕ) → contains xs x ≡ false → (c : ℕ) → contains xs c ≡ true → place (x ∷ xs) c ≡ suc (place xs c)
later_place x xs absent c m = go (x == c) refl
  where
    go : (b : Bool) → (x == c) ≡ b → cond b 0 (suc (place xs c)) ≡ suc (place xs c)
    go true e = absurd (false≢true (sym absent ∙ (ap (contains xs) (eqb-true x c e) ∙ m)))
    go false e = refl

kept : (order : List ℕ) → ((c : ℕ) → count c order ≤ 1) → (test : ℕ → Bool) → codes_at order (filter test (places_below (length order))) ≡ filter (λ c. test (place order c)) order
kept [] once test = refl
kept (x ∷ xs) once test =
    joined (test 0) (test (place (x ∷ xs) x)) (ap (λ b. test (cond b 0 (suc (place xs x)))) (sym (eq-eqb x x refl)))
    (ap (codes_at (x ∷ xs)) (filter_map_suc test (places_below (length xs)))
    ∙ (at_tail x xs (filter (λ i. test (suc i)) (places_below (length xs)))
    ∙ (kept xs (tail_once x xs once) (λ i. test (suc i))
    ∙ filter_members (λ c. test (suc (place xs c))) (λ c. test (place (x ∷ xs) c)) xs (λ c h. ap test (sym (later_place x xs (head_absent x xs once) c (has_member xs c h)))))))
  where
    joined : (a b : Bool) → a ≡ b → codes_at (x ∷ xs) (filter test (map suc (places_below (length xs)))) ≡ filter (λ c. test (place (x ∷ xs) c)) xs
        → codes_at (x ∷ xs) (cond a (0 ∷ filter test (map suc (places_below (length xs)))) (filter test (map suc (places_below (length xs))))) ≡ cond b (x ∷ filter (λ c. test (place (x ∷ xs) c)) xs) (filter (λ c. test (place (x ∷ xs) c)) xs)
    joined true true e k = ap (λ z. x ∷ z) k
    joined true false e k = absurd (false≢true (sym e))
    joined false true e k = absurd (false≢true e)
    joined false false e k = k

there : (order : List ℕ) (c : ℕ) → contains order c ≡ true → (place order c < length order) × (get_or order (place order c) 0 ≡ c)
there [] c m = absurd (false≢true m)
there (x ∷ xs) c m = go (x == c) refl m (there xs c)
  where
    go : (b : Bool) → (x == c) ≡ b → (b || contains xs c) ≡ true → (contains xs c ≡ true → (place xs c < length xs) × (get_or xs (place xs c) 0 ≡ c)) → (cond b 0 (suc (place xs c)) < suc (length xs)) × (get_or (x ∷ xs) (cond b 0 (suc (place xs c))) 0 ≡ c)
    go true e o next = (omega arith, eqb-true x c e)
    go false e o next = let r = next o in (omega (arith, r.0), r.1)

pub place_at : (order : List ℕ) → ((c : ℕ) → count c order ≤ 1) → (i : ℕ) → i < length order → place order (get_or order i 0) ≡ i
place_at [] once i l = absurd (omega arith)
place_at (x ∷ xs) once zero l = ap (λ b. cond b 0 (suc (place xs x))) (eq-eqb x x refl)
place_at (x ∷ xs) once (suc i) l =
    later_place x xs (head_absent x xs once) (get_or xs i 0) (has_member xs (get_or xs i 0) (has_get xs i 0 (omega arith))) ∙ ap suc (place_at xs (tail_once x xs once) i (omega arith))

back : (order : List ℕ) → ((c : ℕ) → count c order ≤ 1) → (places : List ℕ) → All (λ i. i < length order) places → map (place order) (codes_at order places) ≡ places
back order once [] h = refl
back order once (i ∷ is) h = both (place_at order once i (has_all (λ i. i < length order) (i ∷ is) h i (inl refl))) (back order once is (λ k d l. h (suc k) d (omega arith)))
  where
    both : place order (get_or order i 0) ≡ i → map (place order) (codes_at order is) ≡ is → place order (get_or order i 0) ∷ map (place order) (codes_at order is) ≡ i ∷ is
    both e k = cc

pub places_are_codes : PlacesAreCodes
places_are_codes = record { kept = kept; back = back; there = there }
