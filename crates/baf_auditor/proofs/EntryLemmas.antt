-- Lists of values by code, in ascending order.
use Rattle.std.proofs.Common.{◌≡◌, ◌≢◌, ℕ, zero, suc, ◌+◌, ◌==◌, ◌<◌, ◌≤◌, cond, Bool, true, false, List, [], ◌∷◌, ◌++◌, length, map, get_or, Some, None, refl, sym, ap, ◌∙◌, subst, arith, if◌then◌else◌}
use Rattle.std.specs.List.{slice_get, AllByRecursion}
use Rattle.std.specs.List.Sorted.{IsStrictlySortedBy, IsNonDecreasingBy, IsPartitionPoint}
use Rattle.std.specs.Map.{lookup}
use Rattle.std.specs.BTreeMap.{is_at}
use Rattle.std.specs.Ordering.{nat_cmp, eq_by_cmp, is_eq, is_lt, ordering_index, MatchOrdering}
use Rattle.std.specs.declared.cmp.Ordering.{Ordering}
use Rattle.std.specs.declared.cmp.Ordering.TheVariants.{Less, Equal, Greater}
use Rattle.std.specs.Cmp.{nat_cmp_total, eq_by_cmp_equiv, ranked, unsigned_tied}
use Rattle.std.proofs.lemmas.Bool.Decides.{nat_tests}
use Rattle.std.proofs.lemmas.List.{get_or-map, length-map}
use Rattle.std.proofs.lemmas.List.Sorted.{searchable_from_sorted}
use Rattle.std.proofs.lemmas.Map.Entries.{lookup_from_place, lookup_at_gap}
use Rattle.std.proofs.lemmas.Map.Keys.{IsDistinct-from_sorted, below_from_sorted}
use Rattle.pl94_counties.proofs.CollectLemmas.{tied_same}

-- ---- numbers in order
below : (x y : ℕ) → nat_cmp x y ≡ Less → x < y
below x y is = ranked x y Less (sym is)

less : (x y : ℕ) → x < y → nat_cmp x y ≡ Less
less x y lt = by (nat_cmp x y) (ranked x y (nat_cmp x y) refl)
  where
    by : (r : Ordering) → MatchOrdering r (x < y) (x ≡ y) (y < x) → r ≡ Less
    by Less h = refl
    by Equal h = absurd (omega (arith, lt, h))
    by Greater h = absurd (omega (arith, lt, h))

greater : (x y : ℕ) → x < y → nat_cmp y x ≡ Greater
greater x y lt = by (nat_cmp y x) (ranked y x (nat_cmp y x) refl)
  where
    by : (r : Ordering) → MatchOrdering r (y < x) (y ≡ x) (x < y) → r ≡ Greater
    by Less h = absurd (omega (arith, lt, h))
    by Equal h = absurd (omega (arith, lt, h))
    by Greater h = refl

above : (x y : ℕ) → nat_cmp x y ≡ Greater → y < x
above x y is = ranked x y Greater (sym is)

pub same_code : (k c : ℕ) → (k == c) ≡ is_eq (nat_cmp c k)
same_code k c = flipped (k == c) refl ∙ sym (unsigned_tied c k)
  where
    flipped : (b : Bool) → (k == c) ≡ b → (k == c) ≡ (c == k)
    flipped true is = let same : c ≡ k = grind (arith, nat_tests, is) in is ∙ (let own : (c == k) ≡ true = grind (arith, nat_tests, same) in sym own)
    flipped false is = let other : (c == k) ≡ false = grind (arith, nat_tests, is) in is ∙ sym other

other_code : (e k : ℕ) → e < k → is_eq (nat_cmp k e) ≡ false
other_code e k lt = ap is_eq (greater e k lt)

module _ {V : Type 0} where
  abbrev pub InOrder : List (ℕ × V) → Type 0
  InOrder es = IsStrictlySortedBy nat_cmp (map (λ e. e.0) es)

  pub none_in_order : (es : List (ℕ × V)) → es ≡ [] → InOrder es
  unfolding IsStrictlySortedBy
  none_in_order [] is = tt
  none_in_order (e ∷ es) is = cc

  -- ---- the entry at a place
  place_item : (es : List (ℕ × V)) (i : ℕ) (d : ℕ × V) → i < length es → slice_get es i ≡ Some (get_or es i d)
  place_item [] i d in' = absurd (omega (arith, in'))
  place_item (e ∷ es) zero d in' = refl
  place_item (e ∷ es) (suc i) d in' = place_item es i d (omega (arith, in'))

  item_place : (es : List (ℕ × V)) (i : ℕ) (e d : ℕ × V) → slice_get es i ≡ Some e → (i < length es) × (get_or es i d ≡ e)
  item_place [] i e d is = cc
  item_place (x ∷ xs) zero e d is = (let in' : zero < suc (length xs) = omega arith in in', (let same : x ≡ e = cc in same))
  item_place (x ∷ xs) (suc i) e d is = let r = item_place xs i e d is in (let in' : suc i < suc (length xs) = omega (arith, r.0) in in', r.1)

  -- ---- a search by code
  pub found_at : (es : List (ℕ × V)) (code i : ℕ) (d : ℕ × V) → InOrder es → i < length es → nat_cmp (get_or es i d).0 code ≡ Equal → Some (get_or es i d).1 ≡ lookup (is_at (nat_cmp code)) es
  found_at es code i d sorted in' is =
      let same : (get_or es i d).0 ≡ code = tied_same (get_or es i d).0 code (ap is_eq is) in
      let there : lookup (eq_by_cmp nat_cmp (get_or es i d).0) es ≡ Some (get_or es i d).1 =
      lookup_from_place (eq_by_cmp_equiv nat_cmp_total) es i (get_or es i d).0 (get_or es i d).1 (IsDistinct-from_sorted nat_cmp (map (λ (e : ℕ × V). e.0) es) sorted) (place_item es i d in') in
      sym (subst (λ (c : ℕ). lookup (is_at (nat_cmp c)) es ≡ Some (get_or es i d).1) same there)

  rising : (es : List (ℕ × V)) (k : ℕ) (d : ℕ × V) → InOrder es → k + 1 < length es → (get_or es k d).0 < (get_or es (k + 1) d).0
  rising es k d sorted in' =
      let long : length (map (λ (e : ℕ × V). e.0) es) ≡ length es = length-map es (λ (e : ℕ × V). e.0) in
      let lt = below_from_sorted (map (λ (e : ℕ × V). e.0) es) k (k + 1) 0 sorted (omega arith) (omega (arith, in', long)) in
      let one = get_or-map (λ (e : ℕ × V). e.0) es k d 0 (omega (arith, in')) in
      let two = get_or-map (λ (e : ℕ × V). e.0) es (k + 1) d 0 in' in
      omega (arith, lt, one, two)

  pub searchable : (es : List (ℕ × V)) (code : ℕ) → InOrder es → IsNonDecreasingBy (λ (y : ℕ × V). ordering_index (nat_cmp y.0 code)) es
  searchable es code sorted = searchable_from_sorted nat_cmp_total (λ (e : ℕ × V). e.0) es code
      (λ k d low in'. ap is_lt (greater (get_or es k d).0 (get_or es (k + 1) d).0 (rising es k d sorted in')))

  pub missed_at : (es : List (ℕ × V)) (code i : ℕ) → InOrder es → IsPartitionPoint (λ (y : ℕ × V). nat_cmp y.0 code ≡ Less) (λ (y : ℕ × V). nat_cmp y.0 code ≡ Greater) es i → None ≡ lookup (is_at (nat_cmp code)) es
  missed_at es code i sorted point = sym (lookup_at_gap nat_cmp_total code es i sorted
      (λ j e low is. let p = item_place es j e e is in
      greater e.0 code (below e.0 code (subst (λ (x : ℕ × V). nat_cmp x.0 code ≡ Less) p.1 (point.0 j e (omega arith) low))))
      (λ e is. let p = item_place es i e e is in
      less code e.0 (above e.0 code (subst (λ (x : ℕ × V). nat_cmp x.0 code ≡ Greater) p.1 (point.1 i e (omega arith) p.0)))))

  -- ---- an entry behind all others
  abbrev pub Before : ℕ → List (ℕ × V) → Type 0
  Before code es = AllByRecursion (λ e. e.0 < code) es

  pub lookup_last : (es : List (ℕ × V)) (k c : ℕ) (v : V) → Before k es → lookup (is_at (nat_cmp c)) (es ++ (k, v) ∷ []) ≡ (if k == c then Some v else lookup (is_at (nat_cmp c)) es)
  lookup_last [] k c v before = ap (λ (b : Bool). cond b (Some v) None) (sym (same_code k c))
  lookup_last (e ∷ es) k c v before = by (k == c) refl (is_eq (nat_cmp c e.0)) refl (lookup_last es k c v before.1)
    where
      by : (b : Bool) → (k == c) ≡ b → (a : Bool) → is_eq (nat_cmp c e.0) ≡ a
          → lookup (is_at (nat_cmp c)) (es ++ (k, v) ∷ []) ≡ (if b then Some v else lookup (is_at (nat_cmp c)) es)
          → cond a (Some e.1) (lookup (is_at (nat_cmp c)) (es ++ (k, v) ∷ [])) ≡ (if b then Some v else cond a (Some e.1) (lookup (is_at (nat_cmp c)) es))
      by true own true first later =
          let same : k ≡ c = grind (arith, nat_tests, own) in
          let other : is_eq (nat_cmp c e.0) ≡ false = subst (λ (n : ℕ). is_eq (nat_cmp n e.0) ≡ false) same (other_code e.0 k before.0) in
          absurd (let clash : true ≡ false = sym first ∙ other in cc)
      by true own false first later = later
      by false own true first later = refl
      by false own false first later = later

  pub lookup_before : (es : List (ℕ × V)) (k : ℕ) → Before k es → lookup (is_at (nat_cmp k)) es ≡ None
  lookup_before [] k before = refl
  lookup_before (e ∷ es) k before = ap (λ (b : Bool). cond b (Some e.1) (lookup (is_at (nat_cmp k)) es)) (other_code e.0 k before.0) ∙ lookup_before es k before.1

  pub in_order_last : (es : List (ℕ × V)) (k : ℕ) (v : V) → InOrder es → Before k es → InOrder (es ++ (k, v) ∷ [])
  unfolding IsStrictlySortedBy
  in_order_last [] k v sorted before = (tt, tt)
  in_order_last (e ∷ es) k v sorted before = (first es sorted.0, in_order_last es k v sorted.1 before.1)
    where
      first : (rest : List (ℕ × V)) → AllByRecursion (λ y. nat_cmp e.0 y ≡ Less) (map (λ x. x.0) rest) → AllByRecursion (λ y. nat_cmp e.0 y ≡ Less) (map (λ x. x.0) (rest ++ (k, v) ∷ []))
      first [] all = (less e.0 k before.0, tt)
      first (x ∷ rest) all = (all.0, first rest all.1)

  -- all entries before the last one are before it
  pub before_last : (es : List (ℕ × V)) (k : ℕ) (v : V) → InOrder (es ++ (k, v) ∷ []) → InOrder es × Before k es
  unfolding IsStrictlySortedBy
  before_last [] k v sorted = (tt, tt)
  before_last (e ∷ es) k v sorted = let later = before_last es k v sorted.1 in ((kept es sorted.0, later.0), (first es sorted.0, later.1))
    where
      first : (rest : List (ℕ × V)) → AllByRecursion (λ y. nat_cmp e.0 y ≡ Less) (map (λ x. x.0) (rest ++ (k, v) ∷ [])) → e.0 < k
      first [] all = below e.0 k all.0
      first (x ∷ rest) all = first rest all.1

      kept : (rest : List (ℕ × V)) → AllByRecursion (λ y. nat_cmp e.0 y ≡ Less) (map (λ x. x.0) (rest ++ (k, v) ∷ [])) → AllByRecursion (λ y. nat_cmp e.0 y ≡ Less) (map (λ x. x.0) rest)
      kept [] all = tt
      kept (x ∷ rest) all = (all.0, kept rest all.1)

  -- entries up to a code that the last one hasn't are before it
  pub before_other : (es : List (ℕ × V)) (k : ℕ) → InOrder es → AllByRecursion (λ e. e.0 ≤ k) es → ((e : ℕ × V) (rest : List (ℕ × V)) → es ≡ rest ++ e ∷ [] → e.0 ≢ k) → Before k es
  unfolding IsStrictlySortedBy
  before_other [] k sorted upto other = tt
  before_other (e ∷ []) k sorted upto other = (let ne : e.0 ≢ k = other e [] refl in unequal e.0 k upto.0 ne, tt)
    where
      unequal : (a b : ℕ) → a ≤ b → a ≢ b → a < b
      unequal a b le ne = grind (arith, le, ne)
  before_other (e ∷ x ∷ es) k sorted upto other =
      let lt : e.0 < x.0 = below e.0 x.0 sorted.0.0 in
      (omega (arith, lt, upto.1.0), before_other (x ∷ es) k sorted.1 upto.1 (λ l rest is. other l (e ∷ rest) (ap (λ (m : List (ℕ × V)). e ∷ m) is)))
