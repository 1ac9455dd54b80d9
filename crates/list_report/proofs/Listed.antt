-- The sets of lawful groupings that are not shared have counties alone that no shared set has.
use Rattle.std.proofs.Common.{◌≡◌, ℕ, ◌≤◌, Bool, true, false, cond, not, ◌&&◌, ◌||◌, nat_eq, List, [], ◌∷◌, ◌++◌, map, filter, All, Contains, refl, sym, ap, ◌∙◌, ◌⊎◌, inl, inr, subst, arith}
use Rattle.std.specs.List.{list_any, list_all, flat_map}
use Rattle.std.specs.Cmp.{first_so, second_so}
use Rattle.std.specs.Cmp.Lexicographic.{pointwise}
use Rattle.std.proofs.lemmas.Bool.{eqb-true, eq-eqb, false≢true}
use Rattle.grouping_laws.specs.Sets.{indicator, count_in, contains}
use Rattle.grouping_laws.specs.Problem.{Problem}
use Rattle.grouping_laws.specs.Grouping.{Grouping, Lawful, sets_of}
use Rattle.grouping_laws.proofs.Elements.{Has, has_from_contains, has_all}
use Rattle.grouping_laws.proofs.Digits.{digit_true}
use Rattle.grouping_laws.proofs.Sizes.{stands_some}
use Rattle.place_sets.proofs.Sums.{often_some, digit_one}
use Rattle.list_report.specs.SharedSets.{has_set, first_sets, shared_sets, unshared_sets}
use Rattle.list_report.specs.Regions.{unshared_counties}
use Rattle.list_report.specs.Chains.{RegionsAreJoined}
use Rattle.list_report.proofs.Members.{filter_in}
use Rattle.list_report.proofs.Joining.{regions_joined}

-- ---- elements and tests

any_has : {X : Type 0} (q : X → Bool) (xs : List X) → list_any q xs ≡ true → (x : X) × Has xs x × (q x ≡ true)
any_has q [] h = absurd (false≢true h)
any_has {X} q (x ∷ xs) h = go (any_has q xs) (q x) refl h
  where
    go : (list_any q xs ≡ true → (x : X) × Has xs x × (q x ≡ true)) → (b : Bool) → q x ≡ b → (b || list_any q xs) ≡ true → (y : X) × Has (x ∷ xs) y × (q y ≡ true)
    go later true t h = (x, inl refl, t)
    go later false t h = let r = later h in (r.0, inr r.1, r.2)

has_any : {X : Type 0} (q : X → Bool) (xs : List X) (y : X) → Has xs y → q y ≡ true → list_any q xs ≡ true
has_any q [] y h t = absurd h
has_any q (x ∷ xs) y (inl e) t = ap (λ b. b || list_any q xs) (ap q e ∙ t)
has_any q (x ∷ xs) y (inr h) t = go (q x) (has_any q xs y h t)
  where
    go : (b : Bool) → list_any q xs ≡ true → (b || list_any q xs) ≡ true
    go true e = refl
    go false e = e

all_passes : {X : Type 0} (q : X → Bool) (xs : List X) (y : X) → list_all q xs ≡ true → Has xs y → q y ≡ true
all_passes q [] y h i = absurd i
all_passes q (x ∷ xs) y h (inl e) = ap q (sym e) ∙ first_so (q x) (list_all q xs) h
all_passes q (x ∷ xs) y h (inr i) = all_passes q xs y (second_so (q x) (list_all q xs) h) i

kept_has : {X : Type 0} (q : X → Bool) (xs : List X) (y : X) → Has (filter q xs) y → Has xs y × (q y ≡ true)
kept_has q [] y h = absurd h
kept_has {X} q (x ∷ xs) y h = go (kept_has q xs y) (q x) refl h
  where
    go : (Has (filter q xs) y → Has xs y × (q y ≡ true)) → (b : Bool) → q x ≡ b → Has (cond b (x ∷ filter q xs) (filter q xs)) y → Has (x ∷ xs) y × (q y ≡ true)
    go later true t (inl e) = (inl e, ap q (sym e) ∙ t)
    go later true t (inr h) = let r = later h in (inr r.0, r.1)
    go later false t h = let r = later h in (inr r.0, r.1)

flat_has : {X Y : Type 0} (F : X → List Y) (xs : List X) (y : Y) → Has (flat_map F xs) y → (x : X) × Has xs x × Has (F x) y
flat_has F [] y h = absurd h
flat_has {X} {Y} F (x ∷ xs) y h = go (flat_has F xs y) (F x) h (λ i. i)
  where
    go : (Has (flat_map F xs) y → (x : X) × Has xs x × Has (F x) y) → (ys : List Y) → Has (ys ++ flat_map F xs) y → (Has ys y → Has (F x) y) → (z : X) × Has (x ∷ xs) z × Has (F z) y
    go later [] h k = let r = later h in (r.0, inr r.1, r.2)
    go later (z ∷ zs) (inl e) k = (x, inl refl, k (inl e))
    go later (z ∷ zs) (inr h) k = go later zs h (λ i. k (inr i))

map_has : {X Y : Type 0} (F : X → Y) (xs : List X) (y : Y) → Has (map F xs) y → (x : X) × Has xs x × (F x ≡ y)
map_has F [] y h = absurd h
map_has F (x ∷ xs) y (inl e) = (x, inl refl, e)
map_has F (x ∷ xs) y (inr h) = let r = map_has F xs y h in (r.0, inr r.1, r.2)

same_codes : (xs ys : List ℕ) → pointwise nat_eq xs ys ≡ true → xs ≡ ys
same_codes [] [] h = refl
same_codes [] (y ∷ ys) h = absurd (false≢true h)
same_codes (x ∷ xs) [] h = absurd (false≢true h)
same_codes (x ∷ xs) (y ∷ ys) h =
    let first = eqb-true x y (first_so (nat_eq x y) (pointwise nat_eq xs ys) h) in
    ap (λ z. z ∷ xs) first ∙ ap (λ (l : List ℕ). y ∷ l) (same_codes xs ys (second_so (nat_eq x y) (pointwise nat_eq xs ys) h))

itself : (xs : List ℕ) → pointwise nat_eq xs xs ≡ true
itself [] = refl
itself (x ∷ xs) = ap (λ b. b && pointwise nat_eq xs xs) (eq-eqb x x refl) ∙ itself xs

-- ---- two sets of a list

-- two sets of a list that have one code are the same, or the code stands twice
same_or_twice : (c : ℕ) (sets : List (List ℕ)) (s t : List ℕ) → Has sets s → Has sets t → contains s c ≡ true → contains t c ≡ true → (s ≡ t) ⊎ (2 ≤ count_in c sets)
same_or_twice c [] s t h k m n = absurd h
same_or_twice c (x ∷ xs) s t (inl e) (inl f) m n = inl (sym e ∙ f)
same_or_twice c (x ∷ xs) s t (inl e) (inr k) m n = inr (omega (arith, often_some c x (ap (λ (l : List ℕ). contains l c) e ∙ m), stands_some c xs t k n))
same_or_twice c (x ∷ xs) s t (inr h) (inl f) m n = inr (omega (arith, often_some c x (ap (λ (l : List ℕ). contains l c) f ∙ n), stands_some c xs s h m))
same_or_twice c (x ∷ xs) s t (inr h) (inr k) m n = go (same_or_twice c xs s t h k m n)
  where
    go : (s ≡ t) ⊎ (2 ≤ count_in c xs) → (s ≡ t) ⊎ (2 ≤ count_in c (x ∷ xs))
    go (inl e) = inl e
    go (inr l) = inr (omega (arith, l))

module _ (p : Problem) (groupings : List Grouping) (lawful : All (Lawful p) groupings) where
  abbrev listed : List (List (List ℕ))
  listed = map sets_of groupings

  abbrev shared : List (List ℕ)
  shared = shared_sets listed

  -- a shared set stands in each grouping
  stands_in : (g : List (List ℕ)) (t : List ℕ) → Has listed g → Has shared t → Has g t
  stands_in g t h k =
      let each = (kept_has (λ s. list_all (λ g. has_set g s) listed) (first_sets listed) t k).1 in
      let found = any_has (λ x. pointwise nat_eq x t) g (all_passes (λ g. has_set g t) listed g each h) in
      subst (Has g) (same_codes found.0 t found.2) found.1

  -- a set that is not shared has no county of a shared one
  apart : (s : List ℕ) (c : ℕ) → Contains (unshared_sets shared listed) s → contains s c ≡ true → contains (unshared_counties p.counties shared) c ≡ true
  apart s c h m = filter_in (λ c. not (list_any (λ t. contains t c) shared)) p.counties c known (ap not (none (list_any (λ t. contains t c) shared) refl))
    where
      from : (g : List (List ℕ)) × Has listed g × Has (filter (λ s. not (has_set shared s)) g) s
      from = flat_has (λ g. filter (λ s. not (has_set shared s)) g) listed s (has_from_contains (unshared_sets shared listed) s h)

      own_set : Has from.0 s × (not (has_set shared s) ≡ true)
      own_set = kept_has (λ s. not (has_set shared s)) from.0 s from.2

      own : (g : Grouping) × Has groupings g × (sets_of g ≡ from.0)
      own = map_has sets_of groupings from.0 from.1

      once : count_in c from.0 ≡ indicator (contains p.counties c)
      once = ap (count_in c) (sym own.2) ∙ (has_all (Lawful p) groupings lawful own.0 own.1).once c

      known : contains p.counties c ≡ true
      known = digit_true (contains p.counties c) (omega (arith, once, stands_some c from.0 s own_set.0 m))

      clash : (t : List ℕ) → Has shared t → (s ≡ t) ⊎ (2 ≤ count_in c from.0) → ⊥
      clash t k (inl e) =
          let has : has_set shared s ≡ true = has_any (λ x. pointwise nat_eq x s) shared t k (ap (λ (l : List ℕ). pointwise nat_eq l s) (sym e) ∙ itself s) in
          false≢true (ap not (sym has) ∙ own_set.1)
      clash t k (inr l) = omega (arith, l, once, digit_one (contains p.counties c))

      none : (b : Bool) → list_any (λ t. contains t c) shared ≡ b → list_any (λ t. contains t c) shared ≡ false
      none false e = e
      none true e =
          let r = any_has (λ t. contains t c) shared e in
          absurd (clash r.0 r.1 (same_or_twice c from.0 s r.0 own_set.0 (stands_in from.0 r.0 from.1 r.1) m r.2))

pub regions_are_joined : RegionsAreJoined
regions_are_joined p groupings lawful =
    let shared = shared_sets (map sets_of groupings) in
    regions_joined (unshared_counties p.counties shared) (unshared_sets shared (map sets_of groupings)) (apart p groupings lawful)
