-- Lists whose items differ, lists of what a function gives, and lists in order.
use Rattle.std.proofs.Common.{◌≡◌, ◌≢◌, ℕ, zero, suc, Bool, true, false, ◌||◌, ◌+◌, ◌<◌, ◌≤◌, ◌⊎◌, inl, inr, List, [], ◌∷◌, ◌++◌, length, map, Contains, Option, Some, None, refl, sym, ap, ◌∙◌, subst, arith}
use Rattle.std.specs.List.{AllPairs, AllByRecursion, filter_map, cons_option, list_any}
use Rattle.std.specs.List.Sorted.{IsStrictlySortedBy}
use Rattle.std.specs.declared.cmp.Ordering.{Ordering}
use Rattle.std.specs.declared.cmp.Ordering.TheVariants.{Less, Equal}
use Rattle.std.proofs.lemmas.List.Elements.{All-weaker, All-contains_itself}
use Rattle.std.proofs.lemmas.List.Kept.{AllPairs-cons}
use Rattle.grouping_laws.specs.Sets.{sum_by}
use Rattle.pl94_counties.proofs.TraceLemmas.{contains_head, contains_tail, contains_nil, contains_cases}
use Rattle.baf_auditor.specs.Findings.{EachOnce}

-- ---- lists whose items differ
abbrev pub Apart : {X : Type 0} → List X → Type 0
Apart [] = Unit {0}
Apart {X} (x ∷ xs) = ((y : X) → Contains xs y → x ≢ y) × Apart xs

pub pairs_from_apart : {X : Type 0} (xs : List X) → Apart xs → AllPairs (λ x y. x ≢ y) xs
pairs_from_apart [] apart = λ i j d lt in'. absurd (omega (arith, in'))
pairs_from_apart (x ∷ xs) apart = AllPairs-cons (λ x y. x ≢ y) x xs (All-weaker (Contains xs) (λ y. x ≢ y) apart.0 xs (All-contains_itself xs)) (pairs_from_apart xs apart.1)

pub apart_from_pairs : {X : Type 0} (xs : List X) → AllPairs (λ x y. x ≢ y) xs → Apart xs
apart_from_pairs [] pairs = tt
apart_from_pairs {X = X} (x ∷ xs) pairs = (first, apart_from_pairs xs (λ i j d lt in'. let low : suc i < suc j = omega (arith, lt) in let high : suc j < suc (length xs) = omega (arith, in') in pairs (suc i) (suc j) d low high))
  where
    first : (y : X) → Contains xs y → x ≢ y
    first y h same =
        let in' : h.0 < length xs = h.1 in
        let low : zero < suc h.0 = omega arith in
        let high : suc h.0 < suc (length xs) = omega (arith, in') in
        pairs zero (suc h.0) y low high (same ∙ sym h.2)

-- the list without a place where an item stands
abbrev Without : {X : Type 0} → X → List X → Type 0
Without {X} x ys = (zs : List X) × ((f : X → ℕ) → sum_by f ys ≡ f x + sum_by f zs) × ((y : X) → Contains ys y → (x ≡ y) ⊎ Contains zs y)

pull : {X : Type 0} (x : X) (ys : List X) → Contains ys x → Without x ys
pull x [] h = absurd (contains_nil x h)
pull {X = X} x (y ∷ ys) h = by (contains_cases y ys x h) (pull x ys)
  where
    by : (y ≡ x) ⊎ Contains ys x → (Contains ys x → Without x ys) → Without x (y ∷ ys)
    by (inl same) later = (ys, (λ f. ap (λ n. n + sum_by f ys) (ap f same)), λ z k. kept z (contains_cases y ys z k))
      where
        kept : (z : X) → (y ≡ z) ⊎ Contains ys z → (x ≡ z) ⊎ Contains ys z
        kept z (inl e) = inl (sym same ∙ e)
        kept z (inr k) = inr k
    by (inr k) later = (y ∷ (later k).0, (λ f. let e = (later k).1 f in omega (arith, e)), λ z m. kept z (contains_cases y ys z m))
      where
        more : (z : X) → (x ≡ z) ⊎ Contains (later k).0 z → (x ≡ z) ⊎ Contains (y ∷ (later k).0) z
        more z (inl e) = inl e
        more z (inr m) = inr (contains_tail y (later k).0 z m)

        kept : (z : X) → (y ≡ z) ⊎ Contains ys z → (x ≡ z) ⊎ Contains (y ∷ (later k).0) z
        kept z (inl e) = inr (subst (λ w. Contains (y ∷ (later k).0) w) e (contains_head y (later k).0))
        kept z (inr m) = more z ((later k).2 z m)

-- items that differ and all stand in another list add up to no more
total_fewer : {X : Type 0} (xs ys : List X) → Apart xs → ((x : X) → Contains xs x → Contains ys x) → (f : X → ℕ) → sum_by f xs ≤ sum_by f ys
total_fewer [] ys apart within f = omega arith
total_fewer {X = X} (x ∷ xs) ys apart within f =
    let rest = pull x ys (within x (contains_head x xs)) in
    let less = total_fewer xs rest.0 apart.1 (λ y h. stays rest.0 y h (rest.2 y (within y (contains_tail x xs y h)))) f in
    let sum = rest.1 f in
    omega (arith, less, sum)
  where
    stays : (zs : List X) (y : X) → Contains xs y → (x ≡ y) ⊎ Contains zs y → Contains zs y
    stays zs y h (inl same) = absurd (apart.0 y h same)
    stays zs y h (inr k) = k

-- two lists of the same things, each once, add up to the same
pub once_total : {X : Type 0} (P : X → Type 0) (xs ys : List X) → EachOnce P xs → EachOnce P ys → (f : X → ℕ) → sum_by f xs ≡ sum_by f ys
once_total P xs ys one other f =
    let less = total_fewer xs ys (apart_from_pairs xs one.once) (λ x h. (other.are x).1 ((one.are x).0 h)) f in
    let more = total_fewer ys xs (apart_from_pairs ys other.once) (λ x h. (one.are x).1 ((other.are x).0 h)) f in
    omega (arith, less, more)

-- ---- what a function gives for the items of a list
abbrev pub weight : {Y : Type 0} → (Y → ℕ) → Option Y → ℕ
weight f None = 0
weight f (Some y) = f y

module _ {X Y : Type 0} (h : X → Option Y) where
  abbrev pub From : List X → Y → Type 0
  From xs y = (x : X) × Contains xs x × (h x ≡ Some y)

  pub chosen_from : (xs : List X) (y : Y) → Contains (filter_map h xs) y → From xs y
  chosen_from [] y c = absurd (contains_nil y c)
  chosen_from (x ∷ xs) y c = by (h x) refl c (chosen_from xs y)
    where
      by : (o : Option Y) → h x ≡ o → Contains (cons_option o (filter_map h xs)) y → (Contains (filter_map h xs) y → From xs y) → From (x ∷ xs) y
      by None is c later = let l = later c in (l.0, contains_tail x xs l.0 l.1, l.2)
      by (Some z) is c later = elim (contains_cases z (filter_map h xs) y c) as (λ _. From (x ∷ xs) y) [
        | inl same ↦ (x, contains_head x xs, is ∙ ap (λ w. Some w) same)
        | inr k ↦ (let l = later k in (l.0, contains_tail x xs l.0 l.1, l.2))
      ]

  pub chosen_to : (xs : List X) (x : X) (y : Y) → Contains xs x → h x ≡ Some y → Contains (filter_map h xs) y
  chosen_to [] x y c is = absurd (contains_nil x c)
  chosen_to (z ∷ xs) x y c is = by (contains_cases z xs x c) (λ k. chosen_to xs x y k is)
    where
      kept : (o : Option Y) → Contains (filter_map h xs) y → Contains (cons_option o (filter_map h xs)) y
      kept None k = k
      kept (Some w) k = contains_tail w (filter_map h xs) y k

      by : (z ≡ x) ⊎ Contains xs x → (Contains xs x → Contains (filter_map h xs) y) → Contains (cons_option (h z) (filter_map h xs)) y
      by (inl same) later = let e : h z ≡ Some y = ap h same ∙ is in subst (λ o. Contains (cons_option o (filter_map h xs)) y) (sym e) (contains_head y (filter_map h xs))
      by (inr k) later = kept (h z) (later k)

  pub chosen_apart : ((x z : X) (y : Y) → h x ≡ Some y → h z ≡ Some y → x ≡ z) → (xs : List X) → Apart xs → Apart (filter_map h xs)
  chosen_apart alone [] apart = tt
  chosen_apart alone (x ∷ xs) apart = by (h x) refl (chosen_apart alone xs apart.1)
    where
      by : (o : Option Y) → h x ≡ o → Apart (filter_map h xs) → Apart (cons_option o (filter_map h xs))
      by None is later = later
      by (Some y) is later = ((λ z c same. let l = chosen_from xs z c in apart.0 l.0 l.1 (alone x l.0 y is (l.2 ∙ ap (λ w. Some w) (sym same)))), later)

  pub total_chosen : (f : Y → ℕ) (xs : List X) → sum_by f (filter_map h xs) ≡ sum_by (λ x. weight f (h x)) xs
  total_chosen f [] = refl
  total_chosen f (x ∷ xs) = by (h x) (total_chosen f xs)
    where
      by : (o : Option Y) → sum_by f (filter_map h xs) ≡ sum_by (λ x. weight f (h x)) xs → sum_by f (cons_option o (filter_map h xs)) ≡ weight f o + sum_by (λ x. weight f (h x)) xs
      by None later = omega (arith, later)
      by (Some y) later = omega (arith, later)

  module _ (c : X → X → Ordering) (d : Y → Y → Ordering)
      (kept : (x z : X) (y w : Y) → c x z ≡ Less → h x ≡ Some y → h z ≡ Some w → d y w ≡ Less) where
    all_chosen : (x : X) (y : Y) → h x ≡ Some y → (xs : List X) → AllByRecursion (λ z. c x z ≡ Less) xs → AllByRecursion (λ w. d y w ≡ Less) (filter_map h xs)
    all_chosen x y is [] all = tt
    all_chosen x y is (z ∷ xs) all = by (h z) refl (all_chosen x y is xs all.1)
      where
        by : (o : Option Y) → h z ≡ o → AllByRecursion (λ w. d y w ≡ Less) (filter_map h xs) → AllByRecursion (λ w. d y w ≡ Less) (cons_option o (filter_map h xs))
        by None e later = later
        by (Some w) e later = (kept x z y w all.0 is e, later)

    pub chosen_sorted : (xs : List X) → IsStrictlySortedBy c xs → IsStrictlySortedBy d (filter_map h xs)
    unfolding IsStrictlySortedBy
    chosen_sorted [] sorted = tt
    chosen_sorted (x ∷ xs) sorted = by (h x) refl (chosen_sorted xs sorted.1)
      where
        by : (o : Option Y) → h x ≡ o → IsStrictlySortedBy d (filter_map h xs) → IsStrictlySortedBy d (cons_option o (filter_map h xs))
        by None is later = later
        by (Some y) is later = (all_chosen x y is xs sorted.0, later)

-- ---- lists in order
module _ {X : Type 0} (c : X → X → Ordering) where
  pub all_from : (P : X → Type 0) (xs : List X) → ((x : X) → Contains xs x → P x) → AllByRecursion P xs
  all_from P [] h = tt
  all_from P (x ∷ xs) h = (h x (contains_head x xs), all_from P xs (λ y k. h y (contains_tail x xs y k)))

  pub from_all : (P : X → Type 0) (xs : List X) → AllByRecursion P xs → (x : X) → Contains xs x → P x
  from_all P [] all x h = absurd (contains_nil x h)
  from_all P (y ∷ ys) all x h = elim (contains_cases y ys x h) as (λ _. P x) [
    | inl same ↦ subst P same all.0
    | inr k ↦ from_all P ys all.1 x k
  ]

  all_both : (P : X → Type 0) (xs ys : List X) → AllByRecursion P xs → AllByRecursion P ys → AllByRecursion P (xs ++ ys)
  all_both P [] ys one other = other
  all_both P (x ∷ xs) ys one other = (one.0, all_both P xs ys one.1 other)

  pub sorted_both : (xs ys : List X) → IsStrictlySortedBy c xs → IsStrictlySortedBy c ys → ((x y : X) → Contains xs x → Contains ys y → c x y ≡ Less) → IsStrictlySortedBy c (xs ++ ys)
  unfolding IsStrictlySortedBy
  sorted_both [] ys one other between = other
  sorted_both (x ∷ xs) ys one other between = (
    all_both (λ y. c x y ≡ Less) xs ys one.0 (all_from (λ y. c x y ≡ Less) ys (λ y h. between x y (contains_head x xs) h)),
    sorted_both xs ys one.1 other (λ z y k h. between z y (contains_tail x xs z k) h),
  )

  pub sorted_apart : ((x : X) → c x x ≡ Equal) → (xs : List X) → IsStrictlySortedBy c xs → Apart xs
  unfolding IsStrictlySortedBy
  sorted_apart own [] sorted = tt
  sorted_apart own (x ∷ xs) sorted = (
    λ y h same. (let less : c x y ≡ Less = from_all (λ z. c x z ≡ Less) xs sorted.0 y h in let equal : c x x ≡ Less = ap (λ z. c x z) same ∙ less in let tied = own x in cc),
    sorted_apart own xs sorted.1,
  )

-- ---- a test of the items of a list
pub any_from : {X : Type 0} (test : X → Bool) (xs : List X) → list_any test xs ≡ true → (x : X) × Contains xs x × (test x ≡ true)
any_from test [] h = cc
any_from {X = X} test (x ∷ xs) h = by (test x) refl h (any_from test xs)
  where
    by : (b : Bool) → test x ≡ b → (b || list_any test xs) ≡ true → (list_any test xs ≡ true → (y : X) × Contains xs y × (test y ≡ true)) → (y : X) × Contains (x ∷ xs) y × (test y ≡ true)
    by true is k later = (x, contains_head x xs, is)
    by false is k later = let l = later k in (l.0, contains_tail x xs l.0 l.1, l.2)

pub any_to : {X : Type 0} (test : X → Bool) (xs : List X) (x : X) → Contains xs x → test x ≡ true → list_any test xs ≡ true
any_to test [] x h is = absurd (contains_nil x h)
any_to {X = X} test (y ∷ ys) x h is = by (contains_cases y ys x h) (λ k. any_to test ys x k is)
  where
    later_one : (b : Bool) → list_any test ys ≡ true → (b || list_any test ys) ≡ true
    later_one true k = refl
    later_one false k = k

    by : (y ≡ x) ⊎ Contains ys x → (Contains ys x → list_any test ys ≡ true) → (test y || list_any test ys) ≡ true
    by (inl same) later = let here : test y ≡ true = ap test same ∙ is in rw here refl
    by (inr k) later = later_one (test y) (later k)

-- ---- what a map gives
pub mapped_from : {X Y : Type 0} (f : X → Y) (xs : List X) (y : Y) → Contains (map f xs) y → (x : X) × Contains xs x × (f x ≡ y)
mapped_from f [] y h = absurd (contains_nil y h)
mapped_from {X = X} {Y = Y} f (x ∷ xs) y h = elim (contains_cases (f x) (map f xs) y h) as (λ _. (z : X) × Contains (x ∷ xs) z × (f z ≡ y)) [
  | inl same ↦ (x, contains_head x xs, same)
  | inr k ↦ (let l = mapped_from f xs y k in (l.0, contains_tail x xs l.0 l.1, l.2))
]

pub mapped_to : {X Y : Type 0} (f : X → Y) (xs : List X) (x : X) → Contains xs x → Contains (map f xs) (f x)
mapped_to f [] x h = absurd (contains_nil x h)
mapped_to f (z ∷ xs) x h = elim (contains_cases z xs x h) as (λ _. Contains (f z ∷ map f xs) (f x)) [
  | inl same ↦ subst (λ w. Contains (f z ∷ map f xs) w) (ap f same) (contains_head (f z) (map f xs))
  | inr k ↦ contains_tail (f z) (map f xs) (f x) (mapped_to f xs x k)
]

-- items whose images differ
pub apart_from_map : {X Y : Type 0} (f : X → Y) (xs : List X) → Apart (map f xs) → Apart xs
apart_from_map f [] apart = tt
apart_from_map f (x ∷ xs) apart = ((λ y h same. apart.0 (f y) (mapped_to f xs y h) (ap f same)), apart_from_map f xs apart.1)
