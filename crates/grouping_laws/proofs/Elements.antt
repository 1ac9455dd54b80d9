-- Elements of lists, by recursion.
use Rattle.std.proofs.Common.{◌≡◌, ℕ, zero, suc, ◌<◌, List, [], ◌∷◌, ◌++◌, length, get_or, refl, ap, subst, arith, ◌⊎◌, inl, inr, ⊎_elim, All, Contains}
use Rattle.county_codes.specs.declared.group.Group.{Group}
use Rattle.grouping_laws.specs.Grouping.{Grouping, sets_of}

-- an element of a list, by recursion
abbrev pub Has : {X : Type 0} → List X → X → Type 0
Has [] y = ⊥
Has (x ∷ xs) y = (x ≡ y) ⊎ Has xs y

pub has_from_contains : {X : Type 0} (xs : List X) (y : X) → Contains xs y → Has xs y
has_from_contains {X = X} xs y h = go xs h.0 h.1 h.2
  where
    go : (xs : List X) (k : ℕ) → k < length xs → get_or xs k y ≡ y → Has xs y
    go [] k l e = absurd (omega arith)
    go (x ∷ xs) zero l e = inl e
    go (x ∷ xs) (suc k) l e = inr (go xs k (omega arith) e)

pub has_all : {X : Type 0} (P : X → Type 0) (xs : List X) → All P xs → (x : X) → Has xs x → P x
has_all {X = X} P xs h x i = go xs h i
  where
    go : (xs : List X) → All P xs → Has xs x → P x
    go [] h i = absurd i
    go (y ∷ ys) h (inl e) = subst P e (h 0 y (omega arith))
    go (y ∷ ys) h (inr i) = go ys (λ k d l. h (suc k) d (omega arith)) i

pub has_get : {X : Type 0} (xs : List X) (k : ℕ) (d : X) → k < length xs → Has xs (get_or xs k d)
has_get [] k d h = absurd (omega arith)
has_get (x ∷ xs) zero d h = inl refl
has_get (x ∷ xs) (suc k) d h = inr (has_get xs k d (omega arith))

pub all_from_has : {X : Type 0} (P : X → Type 0) (xs : List X) → ((x : X) → Has xs x → P x) → All P xs
all_from_has P xs h = λ k d l. h (get_or xs k d) (has_get xs k d l)

pub contains_from_has : {X : Type 0} (xs : List X) (y : X) → Has xs y → Contains xs y
contains_from_has [] y h = absurd h
contains_from_has (x ∷ xs) y (inl e) = (0, omega arith, e)
contains_from_has (x ∷ xs) y (inr h) = let r = contains_from_has xs y h in (suc r.0, omega (arith, r.1), r.2)

pub has_append : {X : Type 0} (xs ys : List X) (y : X) → Has (xs ++ ys) y → Has xs y ⊎ Has ys y
has_append [] ys y h = inr h
has_append (x ∷ xs) ys y (inl e) = inl (inl e)
has_append (x ∷ xs) ys y (inr h) = ⊎_elim (λ k. inl (inr k)) (λ k. inr k) (has_append xs ys y h)

pub has_left : {X : Type 0} (xs ys : List X) (y : X) → Has xs y → Has (xs ++ ys) y
has_left [] ys y h = absurd h
has_left (x ∷ xs) ys y (inl e) = inl e
has_left (x ∷ xs) ys y (inr h) = inr (has_left xs ys y h)

pub has_right : {X : Type 0} (xs ys : List X) (y : X) → Has ys y → Has (xs ++ ys) y
has_right [] ys y h = h
has_right (x ∷ xs) ys y h = inr (has_right xs ys y h)

-- the groups of a grouping and its sets
pub has-map : (opens : Grouping) (g : List ℕ) → Has (sets_of opens) g → (m : Group) × Has opens m × (m.codes ≡ g)
has-map [] g h = absurd h
has-map (m ∷ ms) g (inl e) = (m, inl refl, e)
has-map (m ∷ ms) g (inr h) = let r = has-map ms g h in (r.0, inr r.1, r.2)

pub has_set : (opens : Grouping) (m : Group) → Has opens m → Has (sets_of opens) m.codes
has_set [] m h = absurd h
has_set (x ∷ xs) m (inl e) = inl (ap (λ (y : Group). y.codes) e)
has_set (x ∷ xs) m (inr h) = inr (has_set xs m h)
