-- Whatever kind of subsets of an order is meant, it can't be that no sorted list has them all.
use Rattle.std.proofs.Common.{◌≡◌, ℕ, suc, Bool, true, false, cond, ◌==◌, List, [], ◌∷◌, ◌++◌, length, map, filter, refl, sym, ◌∙◌, subst, arith, ◌⊎◌, inl, inr, ⊎_elim, AllPairs, Contains, ◌↔◌}
use Rattle.std.proofs.lemmas.Bool.{cases_order, eqb-true, eq-eqb, false≢true}
use Rattle.grouping_laws.specs.Sets.{contains}
use Rattle.grouping_laws.specs.GroupsFrom.{IsLesser, IsBefore, place}
use Rattle.grouping_laws.proofs.Elements.{Has, has_left, has_right, has_from_contains, contains_from_has}
use Rattle.grouping_laws.proofs.Parts.{has-filter}
use Rattle.grouping_laws.proofs.PlaceCodes.{mapped_has}
use Rattle.certificate_laws.proofs.Kept.{head_before, tail_pairs, cons_pairs}

-- it can't be that there is none
abbrev pub NotNone : Type 0 → Type 0
NotNone X = (X → ⊥) → ⊥

pub here : {X : Type 0} → X → NotNone X
here x none = none x

pub then_some : {X Y : Type 0} → NotNone X → (X → NotNone Y) → NotNone Y
then_some h f none = h (λ x. f x none)

pub either_way : (X : Type 0) → NotNone (X ⊎ (X → ⊥))
either_way X none = none (inr (λ x. none (inl x)))

-- lists of numbers of one length are compared
lesser_or : (xs ys : List ℕ) → length xs ≡ length ys → IsLesser xs ys ⊎ (IsLesser ys xs ⊎ (xs ≡ ys))
lesser_or [] [] e = inr (inr refl)
lesser_or [] (y ∷ ys) e = absurd (omega (arith, e))
lesser_or (x ∷ xs) [] e = absurd (omega (arith, e))
lesser_or (x ∷ xs) (y ∷ ys) e = ⊎_elim (same (lesser_or xs ys (omega (arith, e)))) (λ o. ⊎_elim (λ l. inl (inl l)) (λ l. inr (inl (inl l))) o) (cases_order x y)
  where
    heads : x ≡ y → xs ≡ ys → x ∷ xs ≡ y ∷ ys
    heads h k = cc

    same : IsLesser xs ys ⊎ (IsLesser ys xs ⊎ (xs ≡ ys)) → x ≡ y → IsLesser (x ∷ xs) (y ∷ ys) ⊎ (IsLesser (y ∷ ys) (x ∷ xs) ⊎ (x ∷ xs ≡ y ∷ ys))
    same later h = ⊎_elim (λ l. inl (inr (h, l))) (λ o. ⊎_elim (λ l. inr (inl (inr (sym h, l)))) (λ k. inr (inr (heads h k))) o) later

lesser_on : (xs ys zs : List ℕ) → IsLesser xs ys → IsLesser ys zs → IsLesser xs zs
lesser_on [] ys zs h k = absurd h
lesser_on (x ∷ xs) [] zs h k = absurd h
lesser_on (x ∷ xs) (y ∷ ys) [] h k = absurd k
lesser_on (x ∷ xs) (y ∷ ys) (z ∷ zs) (inl h) (inl k) = inl (omega arith)
lesser_on (x ∷ xs) (y ∷ ys) (z ∷ zs) (inl h) (inr k) = inl (omega (arith, k.0))
lesser_on (x ∷ xs) (y ∷ ys) (z ∷ zs) (inr h) (inl k) = inl (omega (arith, h.0))
lesser_on (x ∷ xs) (y ∷ ys) (z ∷ zs) (inr h) (inr k) = inr (h.0 ∙ k.0, lesser_on xs ys zs h.1 k.1)

-- the codes of a set stand in the order
abbrev Listed : List ℕ → List ℕ → Type 0
Listed order g = (c : ℕ) → Has g c → Has order c

place_one : (order : List ℕ) (c d : ℕ) → Has order c → place order c ≡ place order d → c ≡ d
place_one [] c d h e = absurd h
place_one (x ∷ xs) c d h e = go (λ i. place_one xs c d i) (x == c) (x == d) refl refl h e
  where
    go : (Has xs c → place xs c ≡ place xs d → c ≡ d) → (b t : Bool) → (x == c) ≡ b → (x == d) ≡ t → Has (x ∷ xs) c → cond b 0 (suc (place xs c)) ≡ cond t 0 (suc (place xs d)) → c ≡ d
    go later true true k l h e = sym (eqb-true x c k) ∙ eqb-true x d l
    go later true false k l h e = absurd (omega (arith, e))
    go later false true k l h e = absurd (omega (arith, e))
    go later false false k l (inl i) e = absurd (false≢true (sym k ∙ eq-eqb x c i))
    go later false false k l (inr i) e = later i (omega (arith, e))

places_one : (order g h : List ℕ) → Listed order g → map (place order) g ≡ map (place order) h → g ≡ h
places_one order [] [] l e = refl
places_one order [] (y ∷ h) l e = cc
places_one order (x ∷ g) [] l e = cc
places_one order (x ∷ g) (y ∷ h) l e =
    let first : place order x ≡ place order y = cc in
    let others : map (place order) g ≡ map (place order) h = cc in
    both (place_one order x y (l x (inl refl)) first) (places_one order g h (λ c i. l c (inr i)) others)
  where
    both : x ≡ y → g ≡ h → x ∷ g ≡ y ∷ h
    both a b = cc

length_places : (order g : List ℕ) → length (map (place order) g) ≡ length g
length_places order [] = refl
length_places order (x ∷ g) = omega (arith, length_places order g)

before_or : (order g h : List ℕ) → Listed order g → IsBefore order g h ⊎ (IsBefore order h g ⊎ (g ≡ h))
before_or order g h l = ⊎_elim same (λ o. ⊎_elim (λ k. inl (inl k)) (λ k. inr (inl (inl k))) o) (cases_order (length g) (length h))
  where
    same : length g ≡ length h → IsBefore order g h ⊎ (IsBefore order h g ⊎ (g ≡ h))
    same e =
        ⊎_elim (λ k. inl (inr (e, k))) (λ o. ⊎_elim (λ k. inr (inl (inr (sym e, k)))) (λ k. inr (inr (places_one order g h l k))) o)
        (lesser_or (map (place order) g) (map (place order) h) (omega (arith, e, length_places order g, length_places order h)))

before_on : (order g h k : List ℕ) → IsBefore order g h → IsBefore order h k → IsBefore order g k
before_on order g h k (inl a) (inl b) = inl (omega arith)
before_on order g h k (inl a) (inr b) = inl (omega (arith, b.0))
before_on order g h k (inr a) (inl b) = inl (omega (arith, a.0))
before_on order g h k (inr a) (inr b) = inr (a.0 ∙ b.0, lesser_on (map (place order) g) (map (place order) h) (map (place order) k) a.1 b.1)

-- a sorted list with one more set
record WithOne (order g : List ℕ) (sets : List (List ℕ)) : Type 0 where
  pub all : List (List ℕ)
  pub each : (h : List ℕ) → Has all h → (g ≡ h) ⊎ Has sets h
  pub every : (h : List ℕ) → (g ≡ h) ⊎ Has sets h → Has all h
  pub sorted : AllPairs (IsBefore order) all

with_one : (order g : List ℕ) → Listed order g → (sets : List (List ℕ)) → AllPairs (IsBefore order) sets → WithOne order g sets
with_one order g l [] s = record { all = g ∷ []; each = λ h i. i; every = λ h i. i; sorted = cons_pairs (IsBefore order) g [] (λ y i. absurd i) s }
with_one order g l (x ∷ sets) s = ⊎_elim first (λ o. ⊎_elim (behind (with_one order g l sets (tail_pairs (IsBefore order) x sets s))) there o) (before_or order g x l)
  where
    first : IsBefore order g x → WithOne order g (x ∷ sets)
    first b = record {
      all = g ∷ x ∷ sets;
      each = λ h i. i;
      every = λ h i. i;
      sorted = cons_pairs (IsBefore order) g (x ∷ sets) (λ y i. ⊎_elim (λ e. subst (IsBefore order g) e b) (λ k. before_on order g x y b (head_before (IsBefore order) x sets s y k)) i) s;
    }

    there : g ≡ x → WithOne order g (x ∷ sets)
    there e = record { all = x ∷ sets; each = λ h i. inr i; every = λ h i. ⊎_elim (λ k. inl (sym e ∙ k)) (λ k. k) i; sorted = s }

    behind : WithOne order g sets → IsBefore order x g → WithOne order g (x ∷ sets)
    behind more b = record {
      all = x ∷ more.all;
      each = λ h i. ⊎_elim (λ e. inr (inl e)) (λ k. ⊎_elim inl (λ j. inr (inr j)) (more.each h k)) i;
      every = λ h i. ⊎_elim (λ e. inr (more.every h (inl e))) (λ k. ⊎_elim inl (λ j. inr (more.every h (inr j))) k) i;
      sorted = cons_pairs (IsBefore order) x more.all (λ y i. ⊎_elim (λ e. subst (IsBefore order x) e b) (head_before (IsBefore order) x sets s y) (more.each y i)) more.sorted;
    }

-- the sets of a kind that stand among those of a list
record Kept (order : List ℕ) (Kind : List ℕ → Type 0) (among : List (List ℕ)) : Type 0 where
  pub sets : List (List ℕ)
  pub each : (g : List ℕ) → Has sets g → Kind g
  pub every : (g : List ℕ) → Kind g → Has among g → Has sets g
  pub sorted : AllPairs (IsBefore order) sets

module _ (order : List ℕ) (Kind : List ℕ → Type 0) (ordered : (g : List ℕ) → Kind g → filter (contains g) order ≡ g) where
  kind_listed : (g : List ℕ) → Kind g → Listed order g
  kind_listed g k c h = (has-filter (contains g) order c (subst (λ z. Has z c) (sym (ordered g k)) h)).0

  kept_more : (g : List ℕ) (among : List (List ℕ)) → Kept order Kind among → Kind g ⊎ (Kind g → ⊥) → Kept order Kind (g ∷ among)
  kept_more g among kept (inl k) =
      let more = with_one order g (kind_listed g k) kept.sets kept.sorted in
      record {
        sets = more.all;
        each = λ h i. ⊎_elim (λ e. subst Kind e k) (kept.each h) (more.each h i);
        every = λ h j i. more.every h (⊎_elim inl (λ m. inr (kept.every h j m)) i);
        sorted = more.sorted;
      }
  kept_more g among kept (inr no_kind) = record {
    sets = kept.sets;
    each = kept.each;
    every = λ h j i. ⊎_elim (λ e. absurd (no_kind (subst Kind (sym e) j))) (kept.every h j) i;
    sorted = kept.sorted;
  }

  kept_all : (among : List (List ℕ)) → NotNone (Kept order Kind among)
  kept_all [] = here (record { sets = []; each = λ g h. absurd h; every = λ g k h. absurd h; sorted = λ i j d l m. absurd (omega arith) })
  kept_all (g ∷ among) = then_some (kept_all among) (λ kept. then_some (either_way (Kind g)) (λ o. here (kept_more g among kept o)))

-- all subsets, each in the order
abbrev subsets : List ℕ → List (List ℕ)
subsets [] = [] ∷ []
subsets (x ∷ xs) = subsets xs ++ map (λ g. x ∷ g) (subsets xs)

has_subset : (q : ℕ → Bool) (xs : List ℕ) → Has (subsets xs) (filter q xs)
has_subset q [] = inl refl
has_subset q (x ∷ xs) = go (q x) (has_subset q xs)
  where
    go : (b : Bool) → Has (subsets xs) (filter q xs) → Has (subsets (x ∷ xs)) (cond b (x ∷ filter q xs) (filter q xs))
    go true h = has_right (subsets xs) (map (λ g. x ∷ g) (subsets xs)) (x ∷ filter q xs) (mapped_has (λ g. x ∷ g) (subsets xs) (filter q xs) h)
    go false h = has_left (subsets xs) (map (λ g. x ∷ g) (subsets xs)) (filter q xs) h

-- the sorted list of all sets of a kind
pub record Listing (order : List ℕ) (Kind : List ℕ → Type 0) : Type 0 where
  pub sets : List (List ℕ)
  pub each : (g : List ℕ) → Contains sets g ↔ Kind g
  pub sorted : AllPairs (IsBefore order) sets

pub listing : (order : List ℕ) (Kind : List ℕ → Type 0) → ((g : List ℕ) → Kind g → filter (contains g) order ≡ g) → NotNone (Listing order Kind)
listing order Kind ordered =
    then_some (kept_all order Kind ordered (subsets order)) (λ kept. here (record {
      sets = kept.sets;
      each = λ g. (λ h. kept.each g (has_from_contains kept.sets g h), λ k. contains_from_has kept.sets g (kept.every g k (subst (λ z. Has (subsets order) z) (ordered g k) (has_subset (contains g) order))));
      sorted = kept.sorted;
    }))
