-- How much of a list tests keep, and lists whose codes are among those of others.
use Rattle.std.proofs.Common.{◌≡◌, ℕ, ◌+◌, ◌≤◌, ◌<◌, Bool, true, false, cond, ◌||◌, ◌==◌, List, [], ◌∷◌, length, filter, refl, sym, ap, subst, arith}
use Rattle.std.proofs.lemmas.Bool.{false≢true, eqb-true}
use Rattle.grouping_laws.specs.Sets.{indicator, sum_by, count, contains}
use Rattle.place_sets.proofs.Sums.{total_le, often_none, often_some, total_within, total_ones}

-- a sum over what a test keeps
pub sum_by-filter : (f : ℕ → ℕ) (q : ℕ → Bool) (xs : List ℕ) → sum_by f (filter q xs) ≡ sum_by (λ x. cond (q x) (f x) 0) xs
sum_by-filter f q [] = refl
sum_by-filter f q (x ∷ xs) = go (q x) (sum_by-filter f q xs)
  where
    go : (b : Bool) → sum_by f (filter q xs) ≡ sum_by (λ x. cond (q x) (f x) 0) xs → sum_by f (cond b (x ∷ filter q xs) (filter q xs)) ≡ cond b (f x) 0 + sum_by (λ x. cond (q x) (f x) 0) xs
    go true e = omega (arith, e)
    go false e = omega (arith, e)

-- a sum is less if no term is more and that of a member is less
pub total_less : (f g : ℕ → ℕ) (xs : List ℕ) (y : ℕ) → contains xs y ≡ true → f y < g y → ((x : ℕ) → f x ≤ g x) → sum_by f xs < sum_by g xs
total_less f g [] y m l h = absurd (false≢true m)
total_less f g (x ∷ xs) y m l h = go (x == y) refl m (total_less f g xs y)
  where
    go : (b : Bool) → (x == y) ≡ b → (b || contains xs y) ≡ true → (contains xs y ≡ true → f y < g y → ((z : ℕ) → f z ≤ g z) → sum_by f xs < sum_by g xs) → f x + sum_by f xs < g x + sum_by g xs
    go true e o next = omega (arith, subst (λ z. f z < g z) (sym (eqb-true x y e)) l, total_le f g xs h)
    go false e o next = omega (arith, h x, next o l h)

pub length-filter : (q : ℕ → Bool) (xs : List ℕ) → length (filter q xs) ≡ sum_by (λ x. indicator (q x)) xs
length-filter q [] = refl
length-filter q (x ∷ xs) = go (q x) (length-filter q xs)
  where
    go : (b : Bool) → length (filter q xs) ≡ sum_by (λ x. indicator (q x)) xs → length (cond b (x ∷ filter q xs) (filter q xs)) ≡ indicator b + sum_by (λ x. indicator (q x)) xs
    go true e = omega (arith, e)
    go false e = omega (arith, e)

-- a narrower test that leaves out a member that the other keeps keeps fewer
pub fewer_kept : (q r : ℕ → Bool) (xs : List ℕ) (y : ℕ) → ((x : ℕ) → q x ≡ true → r x ≡ true) → contains xs y ≡ true → q y ≡ false → r y ≡ true → length (filter q xs) < length (filter r xs)
fewer_kept q r xs y within m out kept =
    omega (arith, total_less (λ x. indicator (q x)) (λ x. indicator (r x)) xs y m (omega (arith, ap indicator out, ap indicator kept)) (λ x. each x (q x) refl), length-filter q xs, length-filter r xs)
  where
    each : (x : ℕ) → (b : Bool) → q x ≡ b → indicator b ≤ indicator (r x)
    each x true e = omega (arith, ap indicator (within x e))
    each x false e = omega arith

pub no_more_kept : (q r : ℕ → Bool) (xs : List ℕ) → ((x : ℕ) → q x ≡ true → r x ≡ true) → length (filter q xs) ≤ length (filter r xs)
no_more_kept q r xs within = omega (arith, total_le (λ x. indicator (q x)) (λ x. indicator (r x)) xs (λ x. each x (q x) refl), length-filter q xs, length-filter r xs)
  where
    each : (x : ℕ) → (b : Bool) → q x ≡ b → indicator b ≤ indicator (r x)
    each x true e = omega (arith, ap indicator (within x e))
    each x false e = omega arith

-- codes that stand once, all of another list
pub no_more_often : (xs ys : List ℕ) → ((x : ℕ) → count x xs ≤ 1) → ((x : ℕ) → contains xs x ≡ true → contains ys x ≡ true) → (x : ℕ) → count x xs ≤ count x ys
no_more_often xs ys once inside x = go (contains xs x) refl
  where
    go : (b : Bool) → contains xs x ≡ b → count x xs ≤ count x ys
    go true e = omega (arith, once x, often_some x ys (inside x e))
    go false e = omega (arith, often_none x xs e)

pub not_longer : (xs ys : List ℕ) → ((x : ℕ) → count x xs ≤ 1) → ((x : ℕ) → contains xs x ≡ true → contains ys x ≡ true) → length xs ≤ length ys
not_longer xs ys once inside = omega (arith, total_within (λ x. 1) xs ys (no_more_often xs ys once inside), total_ones xs, total_ones ys)
