-- Sets with another number of districts than seats, and districts with the wrong number of people.
use Rattle.std.proofs.Common.{◌≡◌, ◌≢◌, ℕ, zero, suc, ◌+◌, ◌==◌, ◌<◌, ◌≤◌, nat_lt, ◌||◌, ◌⊎◌, inl, inr, Bool, true, false, List, [], ◌∷◌, ◌++◌, length, map, Contains, Some, None, refl, sym, ap, ◌∙◌, subst, arith, if◌then◌else◌}
use Rattle.std.specs.List.{AllByRecursion, filter_map}
use Rattle.std.specs.List.Sorted.{IsStrictlySortedBy}
use Rattle.std.specs.Ordering.{nat_cmp, ordering_then}
use Rattle.std.specs.declared.cmp.Ordering.TheVariants.{Less, Equal}
use Rattle.std.specs.Cmp.Lexicographic.{slice_cmp}
use Rattle.std.proofs.lemmas.Bool.Decides.{nat_tests}
use Rattle.std.proofs.lemmas.List.Elements.{Contains-append_left, Contains-append_right, Contains-append_cases}
use Rattle.pl94_counties.proofs.TraceLemmas.{contains_head, contains_tail, contains_nil, contains_cases}
use Rattle.baf_auditor.specs.Findings.{DrawnSet, set_key, IsLesserKey, by_key}
use Rattle.baf_auditor.specs.Districts.{name_at, size_finding, districts_at, number_finding, numbers_from}
use Rattle.baf_auditor.specs.declared.finding.Set.{Set}
use Rattle.baf_auditor.specs.declared.finding.Finding.{Finding}
use Rattle.baf_auditor.specs.declared.finding.Finding.TheVariants.{WrongNumber, DistrictSize}
use Rattle.baf_auditor.proofs.ListLemmas.{sorted_both, chosen_sorted}
use Rattle.baf_auditor.proofs.DistrictLemmas.{item_at}
use Rattle.baf_auditor.proofs.OrderLemmas.{place_before}

-- ---- items by their places
pub item_contains : {X : Type 0} (xs : List X) (i : ℕ) (x : X) → item_at xs i ≡ Some x → Contains xs x
item_contains [] i x is = cc
item_contains (y ∷ ys) zero x is = let same : y ≡ x = cc in subst (λ z. Contains (y ∷ ys) z) same (contains_head y ys)
item_contains (y ∷ ys) (suc i) x is = contains_tail y ys x (item_contains ys i x is)

pub contains_item : {X : Type 0} (xs : List X) (x : X) → Contains xs x → (i : ℕ) × (item_at xs i ≡ Some x)
contains_item [] x h = absurd (contains_nil x h)
contains_item {X = X} (y ∷ ys) x h = elim (contains_cases y ys x h) as (λ _. (i : ℕ) × (item_at (y ∷ ys) i ≡ Some x)) [
  | inl same ↦ (zero, ap (λ z. Some z) same)
  | inr k ↦ (let l = contains_item ys x k in (suc l.0, l.1))
]

-- ---- numbers of districts
pub numbers-append : (keys : List (List ℕ × ℕ)) (n : ℕ) (ds es : List DrawnSet) → numbers_from keys n (ds ++ es) ≡ numbers_from keys n ds ++ numbers_from keys (n + length ds) es
numbers-append keys n [] es = let e : n ≡ n + 0 = omega arith in ap (λ m. numbers_from keys m es) e
numbers-append keys n (d ∷ ds) es =
    by (number_finding d.name d.seats (districts_at n keys))
    (numbers-append keys (n + 1) ds es ∙ (let e : n + 1 + length ds ≡ n + suc (length ds) = omega arith in ap (λ m. numbers_from keys (n + 1) ds ++ numbers_from keys m es) e))
  where
    by : (own : List Finding) → numbers_from keys (n + 1) (ds ++ es) ≡ numbers_from keys (n + 1) ds ++ numbers_from keys (n + suc (length ds)) es
        → own ++ numbers_from keys (n + 1) (ds ++ es) ≡ (own ++ numbers_from keys (n + 1) ds) ++ numbers_from keys (n + suc (length ds)) es
    by [] later = later
    by (f ∷ fs) later = ap (λ l. f ∷ l) (by fs later)

module _ (keys : List (List ℕ × ℕ)) where
  abbrev pub WrongAt : ℕ → List DrawnSet → Finding → Type 0
  WrongAt n ds f = (i : ℕ) × (d : DrawnSet) × (item_at ds i ≡ Some d) × (districts_at (n + i) keys ≢ d.seats) × (WrongNumber d.name d.seats (districts_at (n + i) keys) ≡ f)

  own_from : (name : Set) (seats districts : ℕ) (f : Finding) → Contains (number_finding name seats districts) f → (districts ≢ seats) × (WrongNumber name seats districts ≡ f)
  own_from name seats districts f h = by (districts == seats) refl h
    where
      by : (b : Bool) → (districts == seats) ≡ b → Contains (if b then [] else WrongNumber name seats districts ∷ []) f → (districts ≢ seats) × (WrongNumber name seats districts ≡ f)
      by true is c = absurd (contains_nil f c)
      by false is c = elim (contains_cases (WrongNumber name seats districts) [] f c) as (λ _. (districts ≢ seats) × (WrongNumber name seats districts ≡ f)) [
        | inl same ↦ ((λ e. let t : (districts == seats) ≡ true = grind (arith, nat_tests, e) in cc), same)
        | inr k ↦ absurd (contains_nil f k)
      ]

  own_to : (name : Set) (seats districts : ℕ) → districts ≢ seats → Contains (number_finding name seats districts) (WrongNumber name seats districts)
  own_to name seats districts wrong = by (districts == seats) refl
    where
      by : (b : Bool) → (districts == seats) ≡ b → Contains (if b then [] else WrongNumber name seats districts ∷ []) (WrongNumber name seats districts)
      by true is = absurd (wrong (grind (arith, nat_tests, is)))
      by false is = contains_head (WrongNumber name seats districts) []

  pub numbers_of : (n : ℕ) (ds : List DrawnSet) (f : Finding) → Contains (numbers_from keys n ds) f → WrongAt n ds f
  numbers_of n [] f h = absurd (contains_nil f h)
  numbers_of n (d ∷ ds) f h = by (Contains-append_cases (number_finding d.name d.seats (districts_at n keys)) (numbers_from keys (n + 1) ds) f h) (λ k. numbers_of (n + 1) ds f k)
    where
      by : Contains (number_finding d.name d.seats (districts_at n keys)) f ⊎ Contains (numbers_from keys (n + 1) ds) f → (Contains (numbers_from keys (n + 1) ds) f → WrongAt (n + 1) ds f) → WrongAt n (d ∷ ds) f
      by (inl k) later =
          let own = own_from d.name d.seats (districts_at n keys) f k in
          let e : n ≡ n + zero = omega arith in
          (zero, d, refl, subst (λ m. districts_at m keys ≢ d.seats) e own.0, subst (λ m. WrongNumber d.name d.seats (districts_at m keys) ≡ f) e own.1)
      by (inr k) later =
          let l = later k in
          let e : n + 1 + l.0 ≡ n + suc l.0 = omega arith in
          (suc l.0, l.1, l.2, subst (λ m. districts_at m keys ≢ l.1.seats) e l.3, subst (λ m. WrongNumber l.1.name l.1.seats (districts_at m keys) ≡ f) e l.4)

  pub of_numbers : (n : ℕ) (ds : List DrawnSet) (i : ℕ) (d : DrawnSet) → item_at ds i ≡ Some d → districts_at (n + i) keys ≢ d.seats → Contains (numbers_from keys n ds) (WrongNumber d.name d.seats (districts_at (n + i) keys))
  of_numbers n [] i d is wrong = cc
  of_numbers n (c ∷ ds) zero d is wrong =
      let same : c ≡ d = cc in
      let e : n + zero ≡ n = omega arith in
      let own = own_to c.name c.seats (districts_at n keys) (subst (λ (m : ℕ). districts_at m keys ≢ c.seats) e (subst (λ (x : DrawnSet). districts_at (n + zero) keys ≢ x.seats) (sym same) wrong)) in
      Contains-append_left (number_finding c.name c.seats (districts_at n keys)) (numbers_from keys (n + 1) ds) (WrongNumber d.name d.seats (districts_at (n + zero) keys))
      (subst (λ (m : ℕ). Contains (number_finding c.name c.seats (districts_at n keys)) (WrongNumber d.name d.seats (districts_at m keys))) (sym e)
      (subst (λ (x : DrawnSet). Contains (number_finding c.name c.seats (districts_at n keys)) (WrongNumber x.name x.seats (districts_at n keys))) same own))
  of_numbers n (c ∷ ds) (suc i) d is wrong =
      let e : n + 1 + i ≡ n + suc i = omega arith in
      Contains-append_right (number_finding c.name c.seats (districts_at n keys)) (numbers_from keys (n + 1) ds) (WrongNumber d.name d.seats (districts_at (n + suc i) keys))
      (subst (λ (m : ℕ). Contains (numbers_from keys (n + 1) ds) (WrongNumber d.name d.seats (districts_at m keys))) e
      (of_numbers (n + 1) ds i d is (subst (λ (m : ℕ). districts_at m keys ≢ d.seats) (sym e) wrong)))

  abbrev pub Named : ℕ → ℕ → List DrawnSet → Type 0
  Named groups n ds = (i : ℕ) (d : DrawnSet) → item_at ds i ≡ Some d → d.name ≡ name_at groups (n + i)

  pub numbers_sorted : (groups n : ℕ) (ds : List DrawnSet) → Named groups n ds → IsStrictlySortedBy by_key (numbers_from keys n ds)
  unfolding IsStrictlySortedBy
  numbers_sorted groups n [] names = tt
  numbers_sorted groups n (d ∷ ds) names =
      sorted_both by_key (number_finding d.name d.seats (districts_at n keys)) (numbers_from keys (n + 1) ds) (one (districts_at n keys == d.seats))
      (numbers_sorted groups (n + 1) ds (λ i c is. names (suc i) c is ∙ (let e : n + suc i ≡ n + 1 + i = omega arith in ap (λ m. name_at groups m) e)))
      between
    where
      one : (b : Bool) → IsStrictlySortedBy by_key (if b then [] else WrongNumber d.name d.seats (districts_at n keys) ∷ [])
      one true = tt
      one false = (tt, tt)

      between : (f g : Finding) → Contains (number_finding d.name d.seats (districts_at n keys)) f → Contains (numbers_from keys (n + 1) ds) g → by_key f g ≡ Less
      between f g h k =
          let a = own_from d.name d.seats (districts_at n keys) f h in
          let b = numbers_of (n + 1) ds g k in
          let e : n + zero ≡ n = omega arith in
          let here : d.name ≡ name_at groups n = names zero d refl ∙ ap (λ m. name_at groups m) e in
          let there : b.1.name ≡ name_at groups (n + suc b.0) = names (suc b.0) b.1 b.2 in
          let lesser : IsLesserKey (set_key d.name) (set_key b.1.name) =
          subst (λ (s : Set). IsLesserKey (set_key s) (set_key b.1.name)) (sym here) (subst (λ (s : Set). IsLesserKey (set_key (name_at groups n)) (set_key s)) (sym there) (place_before groups n (n + suc b.0) (omega arith))) in
          subst (λ (x : Finding). by_key x g ≡ Less) a.1 (subst (λ (x : Finding). by_key (WrongNumber d.name d.seats (districts_at n keys)) x ≡ Less) b.4 lesser)

-- ---- people of districts
module _ (least greatest : ℕ) where
  abbrev Outside : ℕ → Type 0
  Outside people = ((least ≤ people) × (people ≤ greatest)) → ⊥

  pub size_from : (e : List ℕ × ℕ) (f : Finding) → size_finding least greatest e ≡ Some f → Outside e.1 × (DistrictSize e.0 e.1 ≡ f)
  size_from e f is = by (nat_lt e.1 least) (nat_lt greatest e.1) refl refl is
    where
      by : (b c : Bool) → nat_lt e.1 least ≡ b → nat_lt greatest e.1 ≡ c → (if (b || c) then Some (DistrictSize e.0 e.1) else None) ≡ Some f → Outside e.1 × (DistrictSize e.0 e.1 ≡ f)
      by true c low high there = let same : DistrictSize e.0 e.1 ≡ f = cc in let under : e.1 < least = grind (arith, nat_tests, low) in ((λ within. omega (arith, under, within.0)), same)
      by false true low high there = let same : DistrictSize e.0 e.1 ≡ f = cc in let over : greatest < e.1 = grind (arith, nat_tests, high) in ((λ within. omega (arith, over, within.1)), same)
      by false false low high there = cc

  pub size_to : (label : List ℕ) (people : ℕ) → Outside people → size_finding least greatest (label, people) ≡ Some (DistrictSize label people)
  size_to label people outside = by (nat_lt people least) (nat_lt greatest people) refl refl
    where
      by : (b c : Bool) → nat_lt people least ≡ b → nat_lt greatest people ≡ c → (if (b || c) then Some (DistrictSize label people) else None) ≡ Some (DistrictSize label people)
      by true c low high = refl
      by false true low high = refl
      by false false low high = absurd (let from : least ≤ people = grind (arith, nat_tests, low) in let upto : people ≤ greatest = grind (arith, nat_tests, high) in outside (from, upto))

  by_first : (es : List (List ℕ × ℕ)) → IsStrictlySortedBy (slice_cmp nat_cmp) (map (λ e. e.0) es) → IsStrictlySortedBy (λ x y. slice_cmp nat_cmp x.0 y.0) es
  unfolding IsStrictlySortedBy
  by_first [] sorted = tt
  by_first (e ∷ es) sorted = (all e es sorted.0, by_first es sorted.1)
    where
      all : (e : List ℕ × ℕ) (es : List (List ℕ × ℕ)) → AllByRecursion (λ k. slice_cmp nat_cmp e.0 k ≡ Less) (map (λ e. e.0) es) → AllByRecursion (λ y. slice_cmp nat_cmp e.0 y.0 ≡ Less) es
      all e [] a = tt
      all e (f ∷ fs) a = (a.0, all e fs a.1)

  pub sizes_sorted : (es : List (List ℕ × ℕ)) → IsStrictlySortedBy (slice_cmp nat_cmp) (map (λ e. e.0) es) → IsStrictlySortedBy by_key (filter_map (size_finding least greatest) es)
  sizes_sorted es sorted = chosen_sorted (size_finding least greatest) (λ x y. slice_cmp nat_cmp x.0 y.0) by_key kept es (by_first es sorted)
    where
      kept : (x z : List ℕ × ℕ) (f g : Finding) → slice_cmp nat_cmp x.0 z.0 ≡ Less → size_finding least greatest x ≡ Some f → size_finding least greatest z ≡ Some g → by_key f g ≡ Less
      kept x z f g less one other =
          let a = size_from x f one in
          let b = size_from z g other in
          let lesser : by_key (DistrictSize x.0 x.1) (DistrictSize z.0 z.1) ≡ Less = ap (λ r. ordering_then r Equal) less in
          subst (λ (w : Finding). by_key w g ≡ Less) a.1 (subst (λ (w : Finding). by_key (DistrictSize x.0 x.1) w ≡ Less) b.1 lesser)
