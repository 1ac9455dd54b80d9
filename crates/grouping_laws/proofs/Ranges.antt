-- The numbers of seats that suit are a run, and sets can be seated to any sum between their ends.
use Rattle.std.proofs.Common.{◌≡◌, ℕ, zero, suc, ◌+◌, ◌-◌, ◌*◌, ◌≤◌, ◌<◌, List, [], ◌∷◌, min, subst, arith, ◌⊎◌, inl, inr, ⊎_elim, mul-le-mul_right, mul-le-mul_left}
use Rattle.grouping_laws.specs.Sets.{sum_by}
use Rattle.grouping_laws.specs.Problem.{Problem, Suits, people_of}
use Rattle.grouping_laws.specs.Ranges.{IsLeast, IsMost, SuitAll, PeopleHaveRanges}
use Rattle.std.specs.List.{AllZip}

le_or_gt : (a b : ℕ) → (a ≤ b) ⊎ (b < a)
le_or_gt a b = grind arith

-- whether `people` people suit `k` seats
pub suits_or_not : (p : Problem) (people k : ℕ) → Suits p people k ⊎ (Suits p people k → ⊥)
suits_or_not p people k =
    ⊎_elim
    (λ a. ⊎_elim (λ b. ⊎_elim (λ c. inl (record { some_seat = a; enough = b; not_more = c })) (λ c. inr (λ s. omega (arith, c, s.not_more))) (le_or_gt (p.denominator * p.chamber * people) ((p.denominator + p.numerator) * k * p.total_people)))
    (λ b. inr (λ s. omega (arith, b, s.enough))) (le_or_gt ((p.denominator - p.numerator) * k * p.total_people) (p.denominator * p.chamber * people)))
    (λ a. inr (λ s. omega (arith, a, s.some_seat)))
    (le_or_gt 1 k)

scaled : (c s k j : ℕ) → k ≤ j → c * k * s ≤ c * j * s
scaled c s k j h = mul-le-mul_right s (mul-le-mul_left c h)

-- The numbers of seats that suit are a run.
pub suits_between : (p : Problem) (people low k high : ℕ) → Suits p people low → Suits p people high → low ≤ k → k ≤ high → Suits p people k
suits_between p people low k high a b h i = record {
  some_seat = omega (arith, a.some_seat);
  enough = omega (arith, b.enough, scaled (p.denominator - p.numerator) p.total_people k high i);
  not_more = omega (arith, a.not_more, scaled (p.denominator + p.numerator) p.total_people low k h);
}

last_or : (k n : ℕ) → k < suc n → (k < n) ⊎ (k ≡ n)
last_or k n h = grind arith

-- below a bound either none suits or there is a least and a greatest
range_below : (p : Problem) (people n : ℕ)
    → ((k : ℕ) → k < n → Suits p people k → ⊥) ⊎ ((low : ℕ) × (high : ℕ) × Suits p people low × Suits p people high × (low < n) × ((k : ℕ) → k < n → Suits p people k → (low ≤ k) × (k ≤ high)))
range_below p people zero = inl (λ k h s. absurd (omega arith))
range_below p people (suc n) = ⊎_elim none some (range_below p people n)
  where
    Range : Type 0
    Range = ((k : ℕ) → k < suc n → Suits p people k → ⊥) ⊎ ((low : ℕ) × (high : ℕ) × Suits p people low × Suits p people high × (low < suc n) × ((k : ℕ) → k < suc n → Suits p people k → (low ≤ k) × (k ≤ high)))

    none : ((k : ℕ) → k < n → Suits p people k → ⊥) → Range
    none h =
        ⊎_elim
        (λ y. inr (n, n, y, y, omega arith, λ k l t. ⊎_elim (λ b. absurd (h k b t)) (λ e. omega arith) (last_or k n l)))
        (λ no. inl (λ k l t. ⊎_elim (λ b. h k b t) (λ e. no (subst (Suits p people) e t)) (last_or k n l)))
        (suits_or_not p people n)

    some : (low : ℕ) × (high : ℕ) × Suits p people low × Suits p people high × (low < n) × ((k : ℕ) → k < n → Suits p people k → (low ≤ k) × (k ≤ high)) → Range
    some r =
        ⊎_elim
        (λ y. inr (r.0, n, r.2, y, omega (arith, r.4), λ k l t. ⊎_elim (λ b. let q = r.5 k b t in (q.0, omega arith)) (λ e. (omega (arith, r.4), omega arith)) (last_or k n l)))
        (λ no. inr (r.0, r.1, r.2, r.3, omega (arith, r.4), λ k l t. ⊎_elim (λ b. r.5 k b t) (λ e. absurd (no (subst (Suits p people) e t))) (last_or k n l)))
        (suits_or_not p people n)

times_le : (a k b : ℕ) → 1 ≤ a → 1 ≤ b → k ≤ a * k * b
times_le a k b h i = omega (arith, mul-le-mul_right b (mul-le-mul_right k h), mul-le-mul_left k i)

seats_bounded : (p : Problem) → 1 ≤ p.total_people → p.numerator < p.denominator → (people k : ℕ) → Suits p people k → k < suc (p.denominator * p.chamber * people)
seats_bounded p some fits people k s = omega (arith, times_le (p.denominator - p.numerator) k p.total_people (omega arith) some, s.enough)

pub people_have_ranges : PeopleHaveRanges
people_have_ranges p some fits people =
    ⊎_elim
    (λ h. inl (λ k s. h k (seats_bounded p some fits people k s) s))
    (λ r. inr (r.0, r.1, r.2, r.3, λ k s. r.5 k (seats_bounded p some fits people k s) s))
    (range_below p people (suc (p.denominator * p.chamber * people)))

low_high : (p : Problem) (sets : List (List ℕ)) (lows highs : List ℕ) → AllZip (IsLeast p) sets lows → AllZip (IsMost p) sets highs → sum_by (λ k. k) lows ≤ sum_by (λ k. k) highs
low_high p [] [] [] l h = omega arith
low_high p [] (x ∷ lows) highs l h = absurd l
low_high p [] [] (y ∷ highs) l h = absurd h
low_high p (g ∷ sets) [] highs l h = absurd l
low_high p (g ∷ sets) (x ∷ lows) [] l h = absurd h
low_high p (g ∷ sets) (x ∷ lows) (y ∷ highs) l h = omega (arith, low_high p sets lows highs l.1 h.1, l.0.least y h.0.suits)

-- Where the least seats of sets add up to no more than a number, and the greatest to no less, some seats add up to it.
pub seats_to : (p : Problem) (sets : List (List ℕ)) (lows highs : List ℕ) (n : ℕ) → AllZip (IsLeast p) sets lows → AllZip (IsMost p) sets highs → sum_by (λ k. k) lows ≤ n → n ≤ sum_by (λ k. k) highs
    → (ks : List ℕ) × SuitAll p sets ks × (sum_by (λ k. k) ks ≡ n)
seats_to p [] [] [] n l h a b = ([], tt, omega arith)
seats_to p [] (x ∷ lows) highs n l h a b = absurd l
seats_to p [] [] (y ∷ highs) n l h a b = absurd h
seats_to p (g ∷ sets) [] highs n l h a b = absurd l
seats_to p (g ∷ sets) (x ∷ lows) [] n l h a b = absurd h
seats_to p (g ∷ sets) (x ∷ lows) (y ∷ highs) n l h a b =
    let rest = min (n - x) (sum_by (λ k. k) highs) in
    let low = low_high p sets lows highs l.1 h.1 in
    let next = seats_to p sets lows highs rest l.1 h.1 (omega arith) (omega arith) in
    ((n - rest) ∷ next.0, (suits_between p (people_of p g) x (n - rest) y l.0.suits h.0.suits (omega arith) (omega (arith, l.0.least y h.0.suits)), next.1), omega (arith, next.2))
