-- The sizes of sets, added up.
use Rattle.std.proofs.Common.{◌≡◌, ℕ, zero, suc, ◌+◌, ◌*◌, ◌≤◌, ◌<◌, Bool, true, false, cond, ltb, ◌==◌, List, [], ◌∷◌, ◌++◌, filter, length, refl, sym, ap, ◌∙◌, arith, inl, inr}
use Rattle.std.proofs.lemmas.Bool.{eqb-true, lt-ltb, le-ltb, false≢true}
use Rattle.std.proofs.lemmas.Bool.Decides.{nat_tests}
use Rattle.grouping_laws.specs.Sets.{indicator, sum_by, count, count_in, contains, Inside}
use Rattle.grouping_laws.specs.Grouping.{counts}
use Rattle.place_sets.proofs.Sums.{sum_by-append, total_add, total_times, total_same, total_ones, often_none, often_some, total_within, total_alike}
use Rattle.grouping_laws.proofs.Elements.{Has}

pub stands_some : (c : ℕ) (sets : List (List ℕ)) (g : List ℕ) → Has sets g → contains g c ≡ true → 1 ≤ count_in c sets
stands_some c [] g h m = absurd h
stands_some c (x ∷ xs) g (inl e) m = omega (arith, often_some c x (rw e m))
stands_some c (x ∷ xs) g (inr h) m = omega (arith, stands_some c xs g h m)

pub count-le-count_in : (c : ℕ) (sets : List (List ℕ)) (g : List ℕ) → Has sets g → count c g ≤ count_in c sets
count-le-count_in c [] g h = absurd h
count-le-count_in c (x ∷ xs) g (inl e) = omega (arith, ap (count c) e)
count-le-count_in c (x ∷ xs) g (inr h) = omega (arith, count-le-count_in c xs g h)

-- the codes of those sets that pass a test, one after another
abbrev pub flat : (List ℕ → Bool) → List (List ℕ) → List ℕ
flat q [] = []
flat q (g ∷ sets) = cond (q g) (g ++ flat q sets) (flat q sets)

pub sum_by-flat : (w : ℕ → ℕ) (q : List ℕ → Bool) (sets : List (List ℕ)) → sum_by w (flat q sets) ≡ sum_by (λ g. cond (q g) (sum_by w g) 0) sets
sum_by-flat w q [] = refl
sum_by-flat w q (g ∷ sets) = go (q g) (sum_by-flat w q sets)
  where
    go : (b : Bool) → sum_by w (flat q sets) ≡ sum_by (λ g. cond (q g) (sum_by w g) 0) sets → sum_by w (cond b (g ++ flat q sets) (flat q sets)) ≡ cond b (sum_by w g) 0 + sum_by (λ g. cond (q g) (sum_by w g) 0) sets
    go true e = omega (arith, e, sum_by-append w g (flat q sets))
    go false e = omega (arith, e)

pub count-flat-le : (c : ℕ) (q : List ℕ → Bool) (sets : List (List ℕ)) → count c (flat q sets) ≤ count_in c sets
count-flat-le c q [] = omega arith
count-flat-le c q (g ∷ sets) = go (q g) (count-flat-le c q sets)
  where
    go : (b : Bool) → count c (flat q sets) ≤ count_in c sets → count c (cond b (g ++ flat q sets) (flat q sets)) ≤ count c g + count_in c sets
    go true e = omega (arith, e, sum_by-append (λ x. indicator (x == c)) g (flat q sets))
    go false e = omega (arith, e)

pub count-flat_none : (c : ℕ) (q : List ℕ → Bool) (sets : List (List ℕ)) → ((g : List ℕ) → Has sets g → q g ≡ true → contains g c ≡ false) → count c (flat q sets) ≡ 0
count-flat_none c q [] h = refl
count-flat_none c q (g ∷ sets) h = go (q g) refl (count-flat_none c q sets (λ k i. h k (inr i)))
  where
    go : (b : Bool) → q g ≡ b → count c (flat q sets) ≡ 0 → count c (cond b (g ++ flat q sets) (flat q sets)) ≡ 0
    go true e z = omega (arith, z, sum_by-append (λ x. indicator (x == c)) g (flat q sets), often_none c g (h g (inl refl) e))
    go false e z = z

pub count-filter : (c : ℕ) (region : ℕ → Bool) (xs : List ℕ) → region c ≡ true → count c (filter region xs) ≡ count c xs
count-filter c region [] h = refl
count-filter c region (x ∷ xs) h = go (region x) refl (x == c) refl (count-filter c region xs h)
  where
    go : (b : Bool) → region x ≡ b → (d : Bool) → (x == c) ≡ d → count c (filter region xs) ≡ count c xs → count c (cond b (x ∷ filter region xs) (filter region xs)) ≡ indicator d + count c xs
    go true e d f k = omega (arith, k, ap indicator f)
    go false e true f k = absurd (false≢true (sym e ∙ ap region (eqb-true x c f) ∙ h))
    go false e false f k = omega (arith, k)

-- Disjoint sets inside a region share the weights of its counties.
pub share : (w : ℕ → ℕ) (q : List ℕ → Bool) (sets : List (List ℕ)) (counties : List ℕ) (region : ℕ → Bool)
    → ((c : ℕ) → count_in c sets ≤ 1)
    → ((c : ℕ) → region c ≡ true → contains counties c ≡ true)
    → ((g : List ℕ) → Has sets g → q g ≡ true → Inside region g)
    → sum_by (λ g. cond (q g) (sum_by w g) 0) sets ≤ sum_by w (filter region counties)
share w q sets counties region once known inside = omega (arith, sum_by-flat w q sets, total_within w (flat q sets) (filter region counties) few)
  where
    outside : (c : ℕ) → region c ≡ false → (g : List ℕ) → Has sets g → q g ≡ true → contains g c ≡ false
    outside c e g h t = go (contains g c) refl
      where
        go : (b : Bool) → contains g c ≡ b → b ≡ false
        go true m = absurd (false≢true (sym e ∙ inside g h t c m))
        go false m = refl

    few : (c : ℕ) → count c (flat q sets) ≤ count c (filter region counties)
    few c = go (region c) refl
      where
        go : (b : Bool) → region c ≡ b → count c (flat q sets) ≤ count c (filter region counties)
        go true e = omega (arith, count-flat-le c q sets, once c, count-filter c region counties e, often_some c counties (known c e))
        go false e = omega (arith, count-flat_none c q sets (outside c e))

-- the sizes of the sets of fewer than k counties, added up
abbrev pub below : ℕ → List (List ℕ) → ℕ
below k sets = sum_by (λ g. cond (ltb (length g) k) (length g) 0) sets

below_one : (n k : ℕ) → cond (ltb n (suc k)) n 0 ≡ cond (ltb n k) n 0 + indicator (n == k) * k
below_one n k = grind (arith, nat_tests)

pub below_more : (k : ℕ) (sets : List (List ℕ)) → below (suc k) sets ≡ below k sets + counts sets k * k
below_more k sets =
    total_same (λ g. cond (ltb (length g) (suc k)) (length g) 0) (λ g. cond (ltb (length g) k) (length g) 0 + indicator (length g == k) * k) sets (λ g. below_one (length g) k)
    ∙ (total_add (λ g. cond (ltb (length g) k) (length g) 0) (λ g. indicator (length g == k) * k) sets
    ∙ ap (λ z. below k sets + z) (total_times (λ g. indicator (length g == k)) k sets))

sizes_one : (n k d : ℕ) → k ≤ d → cond (ltb n k) n 0 + indicator (n == d) * d ≤ n
sizes_one n k d h = grind (arith, nat_tests)

-- the sets of fewer than k counties and those of d counties are not more than all
pub below-le : (k d : ℕ) (sets : List (List ℕ)) → k ≤ d → below k sets + counts sets d * d ≤ sum_by length sets
below-le k d [] h = omega arith
below-le k d (g ∷ sets) h = omega (arith, sizes_one (length g) k d h, below-le k d sets h)

pub below_all : (k : ℕ) (sets : List (List ℕ)) → ((g : List ℕ) → Has sets g → length g ≤ k) → below (suc k) sets ≡ sum_by length sets
below_all k [] h = refl
below_all k (g ∷ sets) h = rw (lt-ltb (length g) (suc k) (omega (arith, h g (inl refl)))) (omega (arith, below_all k sets (λ x i. h x (inr i))))

below_zero : (sets : List (List ℕ)) → below zero sets ≡ 0
below_zero [] = refl
below_zero (g ∷ sets) = rw (le-ltb (length g) 0 (omega arith)) (omega (arith, below_zero sets))

pub below_first : (sets : List (List ℕ)) → below 1 sets ≡ 0
below_first sets = omega (arith, below_more 0 sets, below_zero sets)

pub below_same : (k : ℕ) (xs ys : List (List ℕ)) → ((j : ℕ) → 1 ≤ j → j < k → counts xs j ≡ counts ys j) → below k xs ≡ below k ys
below_same zero xs ys h = below_zero xs ∙ sym (below_zero ys)
below_same (suc zero) xs ys h = omega (arith, below_more 0 xs, below_more 0 ys, below_same zero xs ys (λ j a b. h j a (omega arith)))
below_same (suc (suc k)) xs ys h =
    omega (arith, below_more (suc k) xs, below_more (suc k) ys, below_same (suc k) xs ys (λ j a b. h j a (omega arith)), ap (λ z. z * suc k) (h (suc k) (omega arith) (omega arith)))

abbrev pub every : List ℕ → Bool
every g = true

-- the sizes of sets that have each code equally often add up to the same
pub same_sizes : (xs ys : List (List ℕ)) → ((c : ℕ) → count_in c xs ≡ count_in c ys) → sum_by length xs ≡ sum_by length ys
same_sizes xs ys h = sym (all_codes xs) ∙ (total_alike (λ x. 1) (flat every xs) (flat every ys) (λ c. each c xs ∙ (h c ∙ sym (each c ys))) ∙ all_codes ys)
  where
    all_codes : (sets : List (List ℕ)) → sum_by (λ x. 1) (flat every sets) ≡ sum_by length sets
    all_codes sets = sum_by-flat (λ x. 1) every sets ∙ total_same (λ g. sum_by (λ x. 1) g) length sets (λ g. total_ones g)

    each : (c : ℕ) (sets : List (List ℕ)) → count c (flat every sets) ≡ count_in c sets
    each c sets = sum_by-flat (λ x. indicator (x == c)) every sets
