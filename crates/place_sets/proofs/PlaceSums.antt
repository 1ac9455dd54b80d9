-- Sums over a set of places, one place after another.
use Rattle.std.proofs.Common.{◌≡◌, ℕ, zero, suc, ◌+◌, ◌≤◌, Bool, true, false, cond, List, [], ◌∷◌, ◌++◌, map, filter, refl, ap, ◌∙◌, subst, arith, add-one}
use Rattle.place_sets.specs.Lists.{sum_by}
use Rattle.place_sets.specs.Lists.{places_below}
use Rattle.place_sets.specs.PlaceSets.{places_of}
use Rattle.place_sets.proofs.PlaceSets.{total_part}

map_end : (xs : List ℕ) (y : ℕ) → map suc (xs ++ y ∷ []) ≡ map suc xs ++ suc y ∷ []
map_end [] y = refl
map_end (x ∷ xs) y = ap (λ z. suc x ∷ z) (map_end xs y)

places_more : (n : ℕ) → places_below (suc n) ≡ places_below n ++ n ∷ []
places_more zero = refl
places_more (suc n) = ap (λ z. zero ∷ map suc z) (places_more n) ∙ ap (λ z. zero ∷ z) (map_end (places_below n) n)

filter_end : (t : ℕ → Bool) (xs : List ℕ) (i : ℕ) → filter t (xs ++ i ∷ []) ≡ filter t xs ++ cond (t i) (i ∷ []) []
filter_end t [] i = refl
filter_end t (x ∷ xs) i = go (t x) (filter_end t xs i)
  where
    go : (b : Bool) → filter t (xs ++ i ∷ []) ≡ filter t xs ++ cond (t i) (i ∷ []) [] → cond b (x ∷ filter t (xs ++ i ∷ [])) (filter t (xs ++ i ∷ [])) ≡ cond b (x ∷ filter t xs) (filter t xs) ++ cond (t i) (i ∷ []) []
    go true e = ap (λ z. x ∷ z) e
    go false e = e

-- one more place stands at the end where it is in the set
pub places_step : (t : ℕ → Bool) (i : ℕ) → places_of (i + 1) t ≡ places_of i t ++ cond (t i) (i ∷ []) []
places_step t i = ap (λ z. places_of z t) (add-one i) ∙ (ap (λ z. filter t z) (places_more i) ∙ filter_end t (places_below i) i)

total_end : (f : ℕ → ℕ) (xs : List ℕ) (b : Bool) (i : ℕ) → sum_by f (xs ++ cond b (i ∷ []) []) ≡ sum_by f xs + cond b (f i) 0
total_end f [] true i = omega arith
total_end f [] false i = refl
total_end f (x ∷ xs) b i = omega (arith, total_end f xs b i)

-- and its share is added
pub total_step : (f : ℕ → ℕ) (t : ℕ → Bool) (i : ℕ) → sum_by f (places_of (i + 1) t) ≡ sum_by f (places_of i t) + cond (t i) (f i) 0
total_step f t i = ap (sum_by f) (places_step t i) ∙ total_end f (places_of i t) (t i) i

pub every : (xs : List ℕ) → filter (λ x. true) xs ≡ xs
every [] = refl
every (x ∷ xs) = ap (λ z. x ∷ z) (every xs)

-- a set has no more than all places
pub total_all : (f : ℕ → ℕ) (n : ℕ) (t : ℕ → Bool) → sum_by f (places_of n t) ≤ sum_by f (places_below n)
total_all f n t = subst (λ z. sum_by f (places_of n t) ≤ sum_by f z) (every (places_below n)) (total_part f n t (λ x. true) (λ x e. refl))
