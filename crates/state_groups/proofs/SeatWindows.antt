-- The windows of the numbers of seats, one after another, until one begins above the people that are asked for.
use Rattle.std.proofs.Common.{◌≡◌, ℕ, ◌+◌, ◌-◌, ◌*◌, ◌≤◌, ◌<◌, List, [], ◌∷◌, ◌++◌, refl, ap, subst, arith, ◌⊎◌, inl, ⊎_elim, mul-le-mul_right, mul-le-mul_left}
use Rattle.grouping_laws.specs.Problem.{Problem, Suits, IsProblem}
use Rattle.grouping_laws.specs.SeatWindow.{people_bounds}
use Rattle.grouping_laws.proofs.WindowLemmas.{bounds_law, above_quotient, pos_product}
use Rattle.grouping_laws.proofs.Elements.{has_from_contains, contains_from_has, has_left, has_right}
use Rattle.state_groups.specs.People.{HasSeatWindow, AreWindows}

-- each number of people that suits fewer seats is in a window
abbrev pub AreSeatWindows : Problem → ℕ → List (ℕ × ℕ) → Type 0
AreSeatWindows p seats windows = (people k : ℕ) → k < seats → Suits p people k → HasSeatWindow windows people

module _ (p : Problem) (is : IsProblem p) where
  pub windows_more : (windows : List (ℕ × ℕ)) (seats : ℕ) (w : ℕ × ℕ) → 1 ≤ seats → w ≡ people_bounds p seats → AreSeatWindows p seats windows → AreSeatWindows p (seats + 1) (windows ++ w ∷ [])
  windows_more windows seats w some e h people k l s = ⊎_elim before here (last k)
    where
      last : (k : ℕ) → (k < seats) ⊎ (seats ≤ k)
      last k = grind arith

      before : k < seats → HasSeatWindow (windows ++ w ∷ []) people
      before j = let r = h people k j s in (r.0, contains_from_has (windows ++ w ∷ []) r.0 (has_left windows (w ∷ []) r.0 (has_from_contains windows r.0 r.1)), r.2, r.3)

      here : seats ≤ k → HasSeatWindow (windows ++ w ∷ []) people
      here j =
          let same : k ≡ seats = omega (arith, l, j) in
          let r = (bounds_law p (omega (arith, is.tolerated)) is.some_seats seats some people).0 (subst (Suits p people) same s) in
          (w, contains_from_has (windows ++ w ∷ []) w (has_right windows (w ∷ []) w (inl refl)), omega (arith, r.0, ap (λ (z : ℕ × ℕ). z.0) e), omega (arith, r.1, ap (λ (z : ℕ × ℕ). z.1) e))

  -- more seats ask for at least as many people
  pub windows_end : (most : ℕ) (windows : List (ℕ × ℕ)) (seats : ℕ) (w : ℕ × ℕ) → w ≡ people_bounds p seats → most < w.0 → AreSeatWindows p seats windows → AreWindows p most windows
  windows_end most windows seats w e above h people k few s = ⊎_elim (λ j. h people k j s) (λ j. absurd (omega (arith, above, few, ap (λ (z : ℕ × ℕ). z.0) e, low j))) (last k)
    where
      last : (k : ℕ) → (k < seats) ⊎ (seats ≤ k)
      last k = grind arith

      fewer : seats ≤ k → (p.denominator - p.numerator) * seats * p.total_people ≤ (p.denominator - p.numerator) * k * p.total_people
      fewer j = mul-le-mul_right p.total_people (mul-le-mul_left (p.denominator - p.numerator) j)

      low : seats ≤ k → (people_bounds p seats).0 ≤ people
      low j = (above_quotient ((p.denominator - p.numerator) * (seats * p.total_people)) (p.denominator * p.chamber) people (pos_product p.denominator p.chamber (omega (arith, is.tolerated)) is.some_seats)).1 (omega (arith, fewer j, s.enough))

  -- no more people than all suit at most two times the chamber's seats, if the tolerance is at most a half
  pub windows_all : (most : ℕ) (windows : List (ℕ × ℕ)) → most ≤ p.total_people → p.denominator ≤ 2 * (p.denominator - p.numerator) → p.chamber ≤ 1000 → AreSeatWindows p 2001 windows → AreWindows p most windows
  windows_all most windows within half few h people k l s = ⊎_elim (λ j. h people k j s) (λ j. absurd (much j)) (last k)
    where
      last : (k : ℕ) → (k < 2001) ⊎ (2001 ≤ k)
      last k = grind arith

      much : 2001 ≤ k → ⊥
      much j =
          let seats : (p.denominator - p.numerator) * 2001 * p.total_people ≤ (p.denominator - p.numerator) * k * p.total_people = mul-le-mul_right p.total_people (mul-le-mul_left (p.denominator - p.numerator) j) in
          let people : p.denominator * p.chamber * people ≤ p.denominator * p.chamber * p.total_people = mul-le-mul_left (p.denominator * p.chamber) (omega (arith, l, within)) in
          let twice : p.denominator * p.chamber * p.total_people ≤ 2 * (p.denominator - p.numerator) * p.chamber * p.total_people = mul-le-mul_right p.total_people (mul-le-mul_right p.chamber half) in
          let all : 2 * (p.denominator - p.numerator) * p.chamber * p.total_people ≤ 2 * (p.denominator - p.numerator) * 1000 * p.total_people = mul-le-mul_right p.total_people (mul-le-mul_left (2 * (p.denominator - p.numerator)) few) in
          let one : 0 < (p.denominator - p.numerator) * p.total_people = pos_product (p.denominator - p.numerator) p.total_people (omega (arith, is.tolerated)) is.some_people in
          omega (arith, s.enough, seats, people, twice, all, one)
