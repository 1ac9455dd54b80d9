-- Members of filters and of maps.
use Rattle.std.proofs.Common.{◌≡◌, ℕ, Bool, true, false, cond, ◌||◌, List, [], ◌∷◌, map, filter, refl, sym, ap, ◌∙◌, ◌⊎◌, inl, inr}
use Rattle.std.proofs.lemmas.Bool.{eq-eqb, false≢true}
use Rattle.grouping_laws.specs.Sets.{contains}
use Rattle.grouping_laws.proofs.Fill.{member_cases}
use Rattle.grouping_laws.proofs.Parts.{member_head, member_tail}

-- a member that passes the test is kept
pub filter_in : (q : ℕ → Bool) (xs : List ℕ) (c : ℕ) → contains xs c ≡ true → q c ≡ true → contains (filter q xs) c ≡ true
filter_in q [] c m k = m
filter_in q (x ∷ xs) c m k = go (λ h. filter_in q xs c h k) (member_cases x xs c m) (q x) refl
  where
    go : (contains xs c ≡ true → contains (filter q xs) c ≡ true) → (x ≡ c) ⊎ (contains xs c ≡ true) → (b : Bool) → q x ≡ b → contains (cond b (x ∷ filter q xs) (filter q xs)) c ≡ true
    go later (inl e) true t = ap (λ z. z || contains (filter q xs) c) (eq-eqb x c e)
    go later (inl e) false t = absurd (false≢true (sym t ∙ (ap q e ∙ k)))
    go later (inr m) true t = member_tail x (filter q xs) c (later m)
    go later (inr m) false t = later m

-- what is kept is a member that passes
pub filter_out : (q : ℕ → Bool) (xs : List ℕ) (c : ℕ) → contains (filter q xs) c ≡ true → (contains xs c ≡ true) × (q c ≡ true)
filter_out q [] c m = absurd (false≢true m)
filter_out q (x ∷ xs) c m = go (λ h. let r = filter_out q xs c h in (member_tail x xs c r.0, r.1)) (q x) refl m
  where
    now : (contains (filter q xs) c ≡ true → (contains (x ∷ xs) c ≡ true) × (q c ≡ true)) → q x ≡ true → (x ≡ c) ⊎ (contains (filter q xs) c ≡ true) → (contains (x ∷ xs) c ≡ true) × (q c ≡ true)
    now later t (inl e) = (ap (λ z. z || contains xs c) (eq-eqb x c e), ap q (sym e) ∙ t)
    now later t (inr m) = later m

    go : (contains (filter q xs) c ≡ true → (contains (x ∷ xs) c ≡ true) × (q c ≡ true)) → (b : Bool) → q x ≡ b → contains (cond b (x ∷ filter q xs) (filter q xs)) c ≡ true
        → (contains (x ∷ xs) c ≡ true) × (q c ≡ true)
    go later true t m = now later t (member_cases x (filter q xs) c m)
    go later false t m = later m

-- what f makes of a member is a member of the map, and each of those comes of one
pub map_in : (f : ℕ → ℕ) (xs : List ℕ) (c : ℕ) → contains xs c ≡ true → contains (map f xs) (f c) ≡ true
map_in f [] c m = m
map_in f (x ∷ xs) c m = go (map_in f xs c) (member_cases x xs c m)
  where
    go : (contains xs c ≡ true → contains (map f xs) (f c) ≡ true) → (x ≡ c) ⊎ (contains xs c ≡ true) → contains (map f (x ∷ xs)) (f c) ≡ true
    go later (inl e) = ap (λ z. z || contains (map f xs) (f c)) (eq-eqb (f x) (f c) (ap f e))
    go later (inr m) = member_tail (f x) (map f xs) (f c) (later m)

pub map_out : (f : ℕ → ℕ) (xs : List ℕ) (m : ℕ) → contains (map f xs) m ≡ true → (a : ℕ) × (contains xs a ≡ true) × (f a ≡ m)
map_out f [] m h = absurd (false≢true h)
map_out f (x ∷ xs) m h = go (λ k. let r = map_out f xs m k in (r.0, member_tail x xs r.0 r.1, r.2)) (member_cases (f x) (map f xs) m h)
  where
    go : (contains (map f xs) m ≡ true → (a : ℕ) × (contains (x ∷ xs) a ≡ true) × (f a ≡ m)) → (f x ≡ m) ⊎ (contains (map f xs) m ≡ true) → (a : ℕ) × (contains (x ∷ xs) a ≡ true) × (f a ≡ m)
    go later (inl e) = (x, member_head x xs, e)
    go later (inr k) = later k
