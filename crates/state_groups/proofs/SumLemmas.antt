-- Sums over the places of a set, taken one after another.
use Rattle.std.proofs.Common.{◌≡◌, ℕ, zero, suc, ◌+◌, ◌-◌, ◌≤◌, ◌<◌, Bool, true, false, cond, ap, ◌∙◌, arith, subst}
use Rattle.place_sets.specs.Lists.{sum_by}
use Rattle.place_sets.specs.PlaceSets.{places_of}
use Rattle.place_sets.proofs.PlaceSums.{total_step}

step_none : (f : ℕ → ℕ) (t : ℕ → Bool) (i : ℕ) → t i ≡ false → sum_by f (places_of (i + 1) t) ≡ sum_by f (places_of i t)
step_none f t i e = omega (arith, total_step f t i, ap (λ b. cond b (f i) 0) e)

step_one : (f : ℕ → ℕ) (t : ℕ → Bool) (i : ℕ) → t i ≡ true → sum_by f (places_of (i + 1) t) ≡ sum_by f (places_of i t) + f i
step_one f t i e = omega (arith, total_step f t i, ap (λ b. cond b (f i) 0) e)

-- places that the set lacks add nothing
gap : (f : ℕ → ℕ) (t : ℕ → Bool) (from k : ℕ) → ((x : ℕ) → from ≤ x → x < from + k → t x ≡ false) → sum_by f (places_of (from + k) t) ≡ sum_by f (places_of from t)
gap f t from zero none = ap (λ z. sum_by f (places_of z t)) (omega arith)
gap f t from (suc k) none =
    let e : from + suc k ≡ (from + k) + 1 = omega arith in
    ap (λ z. sum_by f (places_of z t)) e ∙ (step_none f t (from + k) (none (from + k) (omega arith) (omega arith)) ∙ gap f t from k (λ x l m. none x l (omega (arith, m))))

upto : (f : ℕ → ℕ) (t : ℕ → Bool) (from n : ℕ) → from ≤ n → ((x : ℕ) → from ≤ x → x < n → t x ≡ false) → sum_by f (places_of n t) ≡ sum_by f (places_of from t)
upto f t from n l none =
    let e : from + (n - from) ≡ n = omega (arith, l) in
    subst (λ z. sum_by f (places_of z t) ≡ sum_by f (places_of from t)) e (gap f t from (n - from) (λ x a b. none x a (omega (arith, b, l))))

-- the next place of the set is added
pub sum_next : (f : ℕ → ℕ) (t : ℕ → Bool) (from c : ℕ) → from ≤ c → t c ≡ true → ((x : ℕ) → from ≤ x → x < c → t x ≡ false) → sum_by f (places_of (c + 1) t) ≡ sum_by f (places_of from t) + f c
sum_next f t from c l e none = step_one f t c e ∙ ap (λ z. z + f c) (upto f t from c l none)

-- and where there is none the sum is whole
pub sum_all : (f : ℕ → ℕ) (t : ℕ → Bool) (from n : ℕ) → from ≤ n → ((x : ℕ) → from ≤ x → t x ≡ false) → sum_by f (places_of n t) ≡ sum_by f (places_of from t)
sum_all f t from n l none = upto f t from n l (λ x a b. none x a)

-- a sum on the way is at most the whole
on_way : (f : ℕ → ℕ) (t : ℕ → Bool) (from k : ℕ) → sum_by f (places_of from t) ≤ sum_by f (places_of (from + k) t)
on_way f t from zero = omega (arith, ap (λ z. sum_by f (places_of z t)) (zero_more from))
  where
    zero_more : (x : ℕ) → x + 0 ≡ x
    zero_more x = omega arith
on_way f t from (suc k) =
    let e : from + suc k ≡ (from + k) + 1 = omega arith in
    omega (arith, on_way f t from k, total_step f t (from + k), ap (λ z. sum_by f (places_of z t)) e)

pub sum_below : (f : ℕ → ℕ) (t : ℕ → Bool) (i n : ℕ) → i ≤ n → sum_by f (places_of i t) ≤ sum_by f (places_of n t)
sum_below f t i n l =
    let e : i + (n - i) ≡ n = omega (arith, l) in
    subst (λ z. sum_by f (places_of i t) ≤ sum_by f (places_of z t)) e (on_way f t i (n - i))
