-- A list that stands in order is the one list of its members.
use Rattle.std.proofs.Common.{◌≡◌, ℕ, suc, ◌<◌, ◌⊎◌, inl, inr, List, [], ◌∷◌, length, Contains, AllPairs, Ordering, Less, Greater, nat_cmp, refl, sym, ap, subst, subst₂, ◌∙◌, arith}
use Rattle.std.specs.List.Sorted.{IsStrictlySortedBy, IsStrictlyIncreasing}
use Rattle.std.specs.Ordering.{ordering_then, ordering_reverse}
use Rattle.std.specs.Cmp.{then_flip}
use Rattle.std.proofs.lemmas.Cmp.{nat_cmp_total}
use Rattle.std.proofs.lemmas.List.{length-map, get_or-map}
use Rattle.std.proofs.lemmas.List.Kept.{AllPairs-from_increasing}
use Rattle.std.proofs.lemmas.Map.Keys.{Less-from_sorted}
use Rattle.county_codes.specs.declared.county.County.{County}
use Rattle.county_problem.specs.ProblemValue.{codes_of}
use Rattle.pl94_counties.proofs.TraceLemmas.{contains_head, contains_tail, contains_nil, contains_cases}
use Rattle.adjacency_reader.specs.Pairs.{by_codes}

module _ {X : Type 0} (Before : X → X → Type 0) (one_way : (x y : X) → Before x y → Before y x → ⊥) where
  first_before : (x : X) (xs : List X) → AllPairs Before (x ∷ xs) → (y : X) → Contains xs y → Before x y
  first_before x xs h y there =
      let within : there.0 < length xs = there.1 in
      subst (λ (z : X). Before x z) there.2 (h 0 (suc there.0) y (omega arith) (omega arith))

  rest : (x : X) (xs : List X) → AllPairs Before (x ∷ xs) → AllPairs Before xs
  rest x xs h = λ i j d lt within. h (suc i) (suc j) d (omega arith) (omega arith)

  same_first : (x y : X) (xs ys : List X) → AllPairs Before (x ∷ xs) → AllPairs Before (y ∷ ys) → (y ≡ x) ⊎ Contains ys x → (x ≡ y) ⊎ Contains xs y → x ≡ y
  same_first x y xs ys h k (inl e) there = sym e
  same_first x y xs ys h k (inr a) (inl e) = e
  same_first x y xs ys h k (inr a) (inr b) = absurd (one_way x y (first_before x xs h y b) (first_before y ys k x a))

  -- a member of the rest isn't the first of either
  in_rest : (x y : X) (xs ys : List X) → x ≡ y → AllPairs Before (x ∷ xs) → (z : X) → Contains xs z → (y ≡ z) ⊎ Contains ys z → Contains ys z
  in_rest x y xs ys same h z there (inl e) =
      let below : Before z z = subst (λ (w : X). Before w z) (same ∙ e) (first_before x xs h z there) in
      absurd (one_way z z below below)
  in_rest x y xs ys same h z there (inr later) = later

  pub one_list : (xs ys : List X) → AllPairs Before xs → AllPairs Before ys → ((x : X) → Contains xs x → Contains ys x) → ((x : X) → Contains ys x → Contains xs x) → xs ≡ ys
  one_list [] [] h k to from = refl
  one_list [] (y ∷ ys) h k to from = absurd (contains_nil y (from y (contains_head y ys)))
  one_list (x ∷ xs) [] h k to from = absurd (contains_nil x (to x (contains_head x xs)))
  one_list (x ∷ xs) (y ∷ ys) h k to from =
      let same : x ≡ y = same_first x y xs ys h k (contains_cases y ys x (to x (contains_head x xs))) (contains_cases x xs y (from y (contains_head y ys))) in
      let tails : xs ≡ ys = one_list xs ys (rest x xs h) (rest y ys k)
      (λ z there. in_rest x y xs ys same h z there (contains_cases y ys z (to z (contains_tail x xs z there))))
      (λ z there. in_rest y x ys xs (sym same) k z there (contains_cases x xs z (from z (contains_tail y ys z there)))) in
      ap (λ (z : X). z ∷ xs) same ∙ ap (λ (zs : List X). y ∷ zs) tails

-- pairs
turned : (p q : ℕ × ℕ) → by_codes p q ≡ ordering_reverse (by_codes q p)
turned p q =
    ap (λ (o : Ordering). ordering_then o (nat_cmp p.1 q.1)) (nat_cmp_total.antisymm p.0 q.0)
    ∙ ap (λ (o : Ordering). ordering_then (ordering_reverse (nat_cmp q.0 p.0)) o) (nat_cmp_total.antisymm p.1 q.1)
    ∙ then_flip (nat_cmp q.0 p.0) (nat_cmp q.1 p.1)

pairs_one_way : (p q : ℕ × ℕ) → by_codes p q ≡ Less → by_codes q p ≡ Less → ⊥
pairs_one_way p q lower upper =
    let no : Less ≡ Greater = sym lower ∙ turned p q ∙ ap ordering_reverse upper in
    cc

pub one_list_of_pairs : (xs ys : List (ℕ × ℕ)) → IsStrictlySortedBy by_codes xs → IsStrictlySortedBy by_codes ys
    → ((a b : ℕ) → Contains xs (a, b) → Contains ys (a, b)) → ((a b : ℕ) → Contains ys (a, b) → Contains xs (a, b)) → xs ≡ ys
one_list_of_pairs xs ys h k to from = one_list (λ p q. by_codes p q ≡ Less) pairs_one_way xs ys
    (λ i j d lt within. Less-from_sorted by_codes xs i j d h lt within)
    (λ i j d lt within. Less-from_sorted by_codes ys i j d k lt within)
    (λ p. to p.0 p.1)
    (λ p. from p.0 p.1)

-- counties
by_code : (xs : List County) → IsStrictlyIncreasing (codes_of xs) → AllPairs (λ c d. c.code < d.code) xs
by_code xs h = λ i j d lt within.
    let before : i < length xs = omega arith in
    subst₂ (λ (m n : ℕ). m < n) (get_or-map (λ (c : County). c.code) xs i d d.code before) (get_or-map (λ (c : County). c.code) xs j d d.code within)
    (AllPairs-from_increasing (codes_of xs) h i j d.code lt (subst (λ (n : ℕ). j < n) (sym (length-map xs (λ (c : County). c.code))) within))

codes_one_way : (c d : County) → c.code < d.code → d.code < c.code → ⊥
codes_one_way c d lower upper = omega arith

pub one_list_of_counties : (xs ys : List County) → IsStrictlyIncreasing (codes_of xs) → IsStrictlyIncreasing (codes_of ys)
    → ((c : County) → Contains xs c → Contains ys c) → ((c : County) → Contains ys c → Contains xs c) → xs ≡ ys
one_list_of_counties xs ys h k to from = one_list (λ c d. c.code < d.code) codes_one_way xs ys (by_code xs h) (by_code ys k) to from
