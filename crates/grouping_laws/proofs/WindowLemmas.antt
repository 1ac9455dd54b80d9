-- The quotients of the seat window are its ends.
use Rattle.std.proofs.Common.{◌≡◌, ℕ, ◌+◌, ◌-◌, ◌*◌, ◌/◌, ◌<◌, ◌≤◌, ◌↔◌, Bool, true, false, ◌&&◌, Some, None, is_some, max, nat_le, if◌then◌else◌, arith, refl}
use Rattle.std.specs.Int.{div_ceil}
use Rattle.std.proofs.Math.Nat.{le-div_iff_mul-le, mul-le-mul_left}
use Rattle.std.proofs.lemmas.Grind.{div_ceil_times}
use Rattle.std.proofs.lemmas.Bool.Decides.{nat_tests}
use Rattle.grouping_laws.specs.Problem.{Problem, Suits}
use Rattle.grouping_laws.specs.SeatWindow.{IsRun, AreBounds, seats_between, some_suit, seat_run, people_bounds}

module _ (x d k : ℕ) (some : 0 < d) where
  below_quotient : (k ≤ x / d) ↔ (k * d ≤ x)
  below_quotient = le-div_iff_mul-le some

  above : div_ceil x d ≤ k → x ≤ k * d
  above le = omega (arith, div_ceil_times x d some, mul-le-mul_left d le)

  above_back : x ≤ k * d → div_ceil x d ≤ k
  above_back le = grind (arith, div_ceil_times x d some)

  pub above_quotient : (div_ceil x d ≤ k) ↔ (x ≤ k * d)
  above_quotient = (above, above_back)

regrouped_right : (n k t : ℕ) → n * (k * t) ≡ n * k * t
regrouped_right n k t = omega arith

pub pos_product : (a b : ℕ) → 1 ≤ a → 1 ≤ b → 0 < a * b
pos_product a b one two = grind arith

-- between the quotients of three products, on plain numbers
module _ (below whole above_ total chamber people k : ℕ) (some_below : 1 ≤ below) (some_above : 1 ≤ above_) (some : 1 ≤ total) where
  pub seats_low : (div_ceil (whole * chamber * people) (above_ * total) ≤ k) ↔ (whole * chamber * people ≤ above_ * k * total)
  seats_low =
      let q = above_quotient (whole * chamber * people) (above_ * total) k (pos_product above_ total some_above some) in
      let same : k * (above_ * total) ≡ above_ * k * total = omega arith in
      (λ h. omega (arith, q.0 h, same), λ h. q.1 (omega (arith, h, same)))

  pub seats_high : (k ≤ whole * chamber * people / (below * total)) ↔ (below * k * total ≤ whole * chamber * people)
  seats_high =
      let q = below_quotient (whole * chamber * people) (below * total) k (pos_product below total some_below some) in
      let same : k * (below * total) ≡ below * k * total = omega arith in
      (λ h. omega (arith, q.0 h, same), λ h. q.1 (omega (arith, h, same)))

module _ (p : Problem) (tolerated : p.numerator < p.denominator) (some_people : 1 ≤ p.total_people) (people : ℕ) where
  -- a number of seats suits exactly between the quotients
  suits_between : (k : ℕ) → Suits p people k
      ↔ ((max (div_ceil (p.denominator * p.chamber * people) ((p.denominator + p.numerator) * p.total_people)) 1 ≤ k) × (k ≤ p.denominator * p.chamber * people / ((p.denominator - p.numerator) * p.total_people)))
  suits_between k =
      let low = seats_low (p.denominator - p.numerator) p.denominator (p.denominator + p.numerator) p.total_people p.chamber people k (omega arith) (omega arith) some_people in
      let high = seats_high (p.denominator - p.numerator) p.denominator (p.denominator + p.numerator) p.total_people p.chamber people k (omega arith) (omega arith) some_people in (
        λ s. (let l = low.1 s.not_more in let one = s.some_seat in omega arith, high.1 s.enough),
        λ b. record { some_seat = omega (arith, b.0); enough = high.0 b.1; not_more = low.0 (omega (arith, b.0)) },
      )

  pub window_law : IsRun (Suits p people) (seat_run p people)
  window_law = go (nat_le least greatest) refl
    where
      least : ℕ
      least = max (div_ceil (p.denominator * p.chamber * people) ((p.denominator + p.numerator) * p.total_people)) 1

      greatest : ℕ
      greatest = p.denominator * p.chamber * people / ((p.denominator - p.numerator) * p.total_people)

      go : (b : Bool) → nat_le least greatest ≡ b → IsRun (Suits p people) (if b then Some (least, greatest) else None)
      go true e = (grind (arith, nat_tests, e), suits_between)
      go false e = λ k s. let b = (suits_between k).0 s in absurd (grind (arith, nat_tests, e, b))

module _ (p : Problem) (some_denominator : 1 ≤ p.denominator) (some_seats : 1 ≤ p.chamber) (seats : ℕ) (some : 1 ≤ seats) where
  pub bounds_law : AreBounds p seats (people_bounds p seats)
  bounds_law people =
      let one = pos_product p.denominator p.chamber some_denominator some_seats in
      let low = above_quotient ((p.denominator - p.numerator) * (seats * p.total_people)) (p.denominator * p.chamber) people one in
      let high = below_quotient ((p.denominator + p.numerator) * (seats * p.total_people)) (p.denominator * p.chamber) people one in
      let l = regrouped_right (p.denominator - p.numerator) seats p.total_people in
      let h = regrouped_right (p.denominator + p.numerator) seats p.total_people in
      let m : people * (p.denominator * p.chamber) ≡ p.denominator * p.chamber * people = omega arith in (
        λ s. (low.1 (omega (arith, s.enough, l, m)), high.1 (omega (arith, s.not_more, h, m))),
        λ b. record { some_seat = some; enough = omega (arith, low.0 b.0, l, m); not_more = omega (arith, high.0 b.1, h, m) },
      )

-- a run from max d 1 to m is there exactly where m is at least 1 and d at most m, said by another test
chosen : (d x y m : ℕ) → (d ≤ m) ↔ (x ≤ y) → is_some {T = ℕ × ℕ} (if nat_le (max d 1) m then Some (max d 1, m) else None) ≡ (nat_le 1 m && nat_le x y)
chosen d x y m same = go (nat_le (max d 1) m) refl (nat_le 1 m) refl (nat_le x y) refl
  where
    low : nat_le (max d 1) m ≡ true → (d ≤ m) × (1 ≤ m)
    low e = (grind (arith, nat_tests, e), grind (arith, nat_tests, e))

    within : nat_le x y ≡ true → x ≤ y
    within e = grind (arith, nat_tests, e)

    go : (a : Bool) → nat_le (max d 1) m ≡ a → (b : Bool) → nat_le 1 m ≡ b → (c : Bool) → nat_le x y ≡ c → is_some {T = ℕ × ℕ} (if a then Some (max d 1, m) else None) ≡ (b && c)
    go true e true f true h = refl
    go true e true f false h = absurd (let r = same.0 (low e).0 in grind (arith, nat_tests, r, h))
    go true e false f c h = absurd (let l = (low e).1 in grind (arith, nat_tests, l, f))
    go false e true f true h = absurd (let r = same.1 (within h) in grind (arith, nat_tests, r, f, e))
    go false e true f false h = refl
    go false e false f c h = refl

-- some number of seats suits exactly where the greatest quotient is a seat and reaches: one quotient tells
pub some_between : (below whole above_ total chamber people : ℕ) → 1 ≤ above_ → 1 ≤ total → is_some (seats_between below whole above_ total chamber people) ≡ some_suit below whole above_ total chamber people
some_between below whole above_ total chamber people some_above some =
    chosen (div_ceil (whole * chamber * people) (above_ * total)) (whole * chamber * people) (whole * chamber * people / (below * total) * (above_ * total)) (whole * chamber * people / (below * total))
    (above_quotient (whole * chamber * people) (above_ * total) (whole * chamber * people / (below * total)) (pos_product above_ total some_above some))
