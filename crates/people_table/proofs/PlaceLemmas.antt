-- A county that is put in its place by its code.
use Rattle.std.proofs.Common.{◌≡◌, ℕ, zero, suc, ◌+◌, ◌<◌, ◌≤◌, ◌||◌, Bool, true, false, cond, List, [], ◌∷◌, length, map, All, nat_lt, ◌==◌, get_or, if◌then◌else◌, refl, sym, ap, ◌∙◌, subst, arith}
use Rattle.std.specs.List.{insert}
use Rattle.std.specs.List.Sorted.{IsPermutation, IsStrictlyIncreasing}
use Rattle.std.proofs.lemmas.Bool.Decides.{nat_tests}
use Rattle.std.proofs.lemmas.List.{get_or_default}
use Rattle.std.proofs.lemmas.List.Elements.{All-cons}
use Rattle.std.proofs.lemmas.List.Kept.{AllPairs-from_increasing}
use Rattle.std.proofs.lemmas.List.Sorted.{IsPermutation-refl, IsPermutation-trans, IsPermutation-cons, IsPermutation-middle, IsPermutation-map, All-permutation}
use Rattle.pl94_counties.specs.CountyNames.{CountyName}
use Rattle.people_table.specs.Listed.{has_county, put_county}

-- ---- ascending numbers
rising_cons : (x : ℕ) (xs : List ℕ) → All (λ y. x < y) xs → IsStrictlyIncreasing xs → IsStrictlyIncreasing (x ∷ xs)
rising_cons x xs above rises zero within = above 0 0 (omega arith)
rising_cons x xs above rises (suc k) within =
    let e : suc (k + 1) ≡ suc k + 1 = omega arith in
    subst (λ (n : ℕ). get_or xs k 0 < get_or (x ∷ xs) n 0) e (rises k (omega arith))

rising_tail : (x : ℕ) (xs : List ℕ) → IsStrictlyIncreasing (x ∷ xs) → IsStrictlyIncreasing xs
rising_tail x xs rises k within =
    let e : suc k + 1 ≡ suc (k + 1) = omega arith in
    subst (λ (n : ℕ). get_or xs k 0 < get_or (x ∷ xs) n 0) e (rises (suc k) (omega arith))

above_head : (x : ℕ) (xs : List ℕ) → IsStrictlyIncreasing (x ∷ xs) → All (λ y. x < y) xs
above_head x xs rises k d within = AllPairs-from_increasing (x ∷ xs) rises zero (suc k) d (omega arith) (omega arith)

all_above : (x y : ℕ) (xs : List ℕ) → x < y → All (λ z. y < z) xs → All (λ z. x < z) xs
all_above x y xs below above k d within = let next : y < get_or xs k d = above k d within in omega arith

-- the codes of counties
abbrev pub codes_found : List CountyName → List ℕ
codes_found found = map (λ k. k.county.code) found

-- ---- a county more
pub put_moves : (k : CountyName) (found : List CountyName) → IsPermutation (k ∷ found) (put_county k found)
put_moves k [] = IsPermutation-refl (k ∷ [])
put_moves k (f ∷ found) = by (nat_lt k.county.code f.county.code) (put_moves k found)
  where
    by : (t : Bool) → IsPermutation (k ∷ found) (put_county k found) → IsPermutation (k ∷ f ∷ found) (if t then k ∷ f ∷ found else f ∷ put_county k found)
    by true later = IsPermutation-refl (k ∷ f ∷ found)
    by false later =
        IsPermutation-trans (k ∷ f ∷ found) (f ∷ k ∷ found) (f ∷ put_county k found) (IsPermutation-middle (k ∷ []) f found)
        (IsPermutation-cons f (k ∷ found) (put_county k found) later)

all_put : (x : ℕ) (k : CountyName) (found : List CountyName) → x < k.county.code → All (λ y. x < y) (codes_found found) → All (λ y. x < y) (codes_found (put_county k found))
all_put x k found below above =
    All-permutation (λ y. x < y) (codes_found (k ∷ found)) (codes_found (put_county k found)) (IsPermutation-map (λ (f : CountyName). f.county.code) (k ∷ found) (put_county k found) (put_moves k found))
    (All-cons (λ y. x < y) k.county.code (codes_found found) below above)

-- a code that none has
none_before : (s t : Bool) → (s || t) ≡ false → (s ≡ false) × (t ≡ false)
none_before true t is = absurd cc
none_before false t is = (refl, is)

behind_head : (n m : ℕ) → (m == n) ≡ false → nat_lt n m ≡ false → m < n
behind_head n m apart after = grind (arith, nat_tests)

pub rising_put : (k : CountyName) (found : List CountyName) → has_county k.county.code found ≡ false → IsStrictlyIncreasing (codes_found found) → IsStrictlyIncreasing (codes_found (put_county k found))
rising_put k [] new rises = λ i within. absurd (omega arith)
rising_put k (f ∷ found) new rises =
    let none = none_before (f.county.code == k.county.code) (has_county k.county.code found) new in
    by none.0 (rising_put k found none.1 (rising_tail f.county.code (codes_found found) rises)) (nat_lt k.county.code f.county.code) refl
  where
    by : (f.county.code == k.county.code) ≡ false → IsStrictlyIncreasing (codes_found (put_county k found)) → (t : Bool) → nat_lt k.county.code f.county.code ≡ t
        → IsStrictlyIncreasing (codes_found (if t then k ∷ f ∷ found else f ∷ put_county k found))
    by apart later true lt =
        let below : k.county.code < f.county.code = grind (arith, nat_tests) in
        rising_cons k.county.code (codes_found (f ∷ found))
        (All-cons (λ y. k.county.code < y) f.county.code (codes_found found) below (all_above k.county.code f.county.code (codes_found found) below (above_head f.county.code (codes_found found) rises)))
        rises
    by apart later false lt =
        rising_cons f.county.code (codes_found (put_county k found))
        (all_put f.county.code k found (behind_head k.county.code f.county.code apart lt) (above_head f.county.code (codes_found found) rises))
        later

-- a place behind codes that are not greater, and in front of one that is
pub put_at : (k : CountyName) (found : List CountyName) (i : ℕ) → i ≤ length found
    → ((j : ℕ) → j < i → nat_lt k.county.code (get_or found j k).county.code ≡ false)
    → (i < length found → nat_lt k.county.code (get_or found i k).county.code ≡ true)
    → insert found i k ≡ put_county k found
put_at k [] zero within before after = refl
put_at k [] (suc i) within before after = absurd (omega arith)
put_at k (f ∷ found) zero within before after =
    ap (λ (t : Bool). cond t (k ∷ f ∷ found) (f ∷ put_county k found)) (sym (after (omega arith)))
put_at k (f ∷ found) (suc i) within before after =
    ap (λ (l : List CountyName). f ∷ l) (put_at k found i (omega arith) (λ j lt. before (suc j) (omega arith)) (λ lt. after (omega arith)))
    ∙ ap (λ (t : Bool). cond t (k ∷ f ∷ found) (f ∷ put_county k found)) (sym (before zero (omega arith)))

-- the same for a code, in front of a county that has a greater one
pub put_in_front : (k : CountyName) (code : ℕ) (found : List CountyName) (i : ℕ) (other : CountyName) → k.county.code ≡ code → i < length found → other ≡ get_or found i other
    → nat_lt code other.county.code ≡ true
    → ((j : ℕ) (d : CountyName) → j < i → nat_lt code (get_or found j d).county.code ≡ false)
    → insert found i k ≡ put_county k found
put_in_front k code found i other is within at below before =
    put_at k found i (omega arith)
    (λ j lt. subst (λ (n : ℕ). nat_lt n (get_or found j k).county.code ≡ false) (sym is) (before j k lt))
    (λ lt. subst (λ (n : ℕ). nat_lt n (get_or found i k).county.code ≡ true) (sym is)
    (subst (λ (f : CountyName). nat_lt code f.county.code ≡ true) (at ∙ get_or_default found i other k within) below))

-- the same behind all
pub put_last : (k : CountyName) (code : ℕ) (found : List CountyName) (i : ℕ) → k.county.code ≡ code → length found ≤ i
    → ((j : ℕ) (d : CountyName) → j < i → nat_lt code (get_or found j d).county.code ≡ false)
    → insert found (length found) k ≡ put_county k found
put_last k code found i is over before =
    put_at k found (length found) (omega arith)
    (λ j lt. subst (λ (n : ℕ). nat_lt n (get_or found j k).county.code ≡ false) (sym is) (before j k (omega arith)))
    (λ lt. absurd (omega arith))
