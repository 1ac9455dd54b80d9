-- When a set can grow into no lawful group: with the people of as many more places as may join it stays too small for
-- one seat.
use Rattle.std.proofs.Common.{◌≡◌, ℕ, ◌+◌, ◌-◌, ◌*◌, ◌≤◌, ◌<◌, Bool, true, false, cond, nat_lt, ◌&&◌, not, List, [], ◌∷◌, filter, length, refl, sym, ap, ◌∙◌, arith, inl, inr, mul-le-mul_right, mul-le-mul_left}
use Rattle.grouping_laws.specs.Sets.{indicator, sum_by, count, contains}
use Rattle.grouping_laws.specs.Problem.{Problem, Suits, people_of}
use Rattle.grouping_laws.specs.Places.{places_below}
use Rattle.place_sets.specs.PlaceSets.{places_of}
use Rattle.grouping_laws.specs.SeatWindow.{people_bounds}
use Rattle.place_sets.proofs.Sums.{total_alike, total_ones}
use Rattle.grouping_laws.proofs.Elements.{Has}
use Rattle.grouping_laws.proofs.Places.{has_member}
use Rattle.grouping_laws.proofs.Parts.{has-filter, sum_by-split}
use Rattle.place_sets.proofs.PlaceSets.{often_tested, count-places_of}
use Rattle.grouping_laws.proofs.WindowLemmas.{above_quotient}

-- a sum over a list in which nothing has more than a bound
pub total_most : (f : ℕ → ℕ) (most : ℕ) (xs : List ℕ) → ((x : ℕ) → Has xs x → f x ≤ most) → sum_by f xs ≤ length xs * most
total_most f most [] h = omega arith
total_most f most (x ∷ xs) h = omega (arith, h x (inl refl), total_most f most xs (λ y i. h y (inr i)))

module _ (n : ℕ) (set : ℕ → Bool) (g : List ℕ) (in_order : filter (contains g) (places_below n) ≡ g) (inside : (c : ℕ) → set c ≡ true → contains g c ≡ true) where
  -- the places of the list that are in the set are the set's
  kept_set : (f : ℕ → ℕ) → sum_by f (filter set g) ≡ sum_by f (places_of n set)
  kept_set f = total_alike f (filter set g) (places_of n set) each
    where
      counted : (c : ℕ) → count c g ≡ indicator (nat_lt c n && contains g c)
      counted c = ap (count c) (sym in_order) ∙ count-places_of n c (contains g)

      each : (c : ℕ) → count c (filter set g) ≡ count c (places_of n set)
      each c = often_tested c set g ∙ (go (set c) refl ∙ sym (count-places_of n c set))
        where
          none : (a : Bool) → 0 ≡ indicator (a && false)
          none true = refl
          none false = refl

          go : (b : Bool) → set c ≡ b → cond b (count c g) 0 ≡ indicator (nat_lt c n && set c)
          go true e = counted c ∙ ap (λ z. indicator (nat_lt c n && z)) (inside c e ∙ sym e)
          go false e = none (nat_lt c n) ∙ ap (λ z. indicator (nat_lt c n && z)) (sym e)

  -- the people of a list of places, over those of a set inside it
  pub people_most : (p : Problem) (limit most : ℕ) → length g ≤ limit → ((c : ℕ) → contains g c ≡ true → set c ≡ false → p.people c ≤ most) → people_of p g ≤ people_of p (places_of n set) + (limit - length (places_of n set)) * most
  people_most p limit most small few =
      let rest : List ℕ = filter (λ x. not (set x)) g in
      let size : length g ≡ length (places_of n set) + length rest = sym (total_ones g) ∙ (sum_by-split (λ x. 1) set g ∙ split) in
      omega (arith, sum_by-split p.people set g, kept_set p.people, total_most p.people most rest each, mul-le-mul_right most (fits size))
    where
      split : sum_by (λ x. 1) (filter set g) + sum_by (λ x. 1) (filter (λ x. not (set x)) g) ≡ length (places_of n set) + length (filter (λ x. not (set x)) g)
      split = omega (arith, kept_set (λ x. 1), total_ones (places_of n set), total_ones (filter (λ x. not (set x)) g))

      fits : length g ≡ length (places_of n set) + length (filter (λ x. not (set x)) g) → length (filter (λ x. not (set x)) g) ≤ limit - length (places_of n set)
      fits size = omega (arith, size, small)

      not_in : (b : Bool) → not b ≡ true → b ≡ false
      not_in true e = sym e
      not_in false e = refl

      each : (c : ℕ) → Has (filter (λ x. not (set x)) g) c → p.people c ≤ most
      each c h = let r : Has g c × (not (set c) ≡ true) = has-filter (λ x. not (set x)) g c h in few c (has_member g c r.0) (not_in (set c) r.1)

-- too few people for one seat are too few for any number of seats
pub too_few : (p : Problem) (people : ℕ) → p.denominator * p.chamber * people < (p.denominator - p.numerator) * p.total_people → (k : ℕ) → Suits p people k → ⊥
too_few p people few k s = omega (arith, few, s.enough, mul-le-mul_right p.total_people (mul-le-mul_left (p.denominator - p.numerator) s.some_seat))

pub below_bounds : (p : Problem) → 1 ≤ p.denominator → 1 ≤ p.chamber → (people : ℕ) → people < (people_bounds p 1).0 → (k : ℕ) → Suits p people k → ⊥
below_bounds p some_denominator some_seats people few k s =
    let bound = above_quotient ((p.denominator - p.numerator) * (1 * p.total_people)) (p.denominator * p.chamber) people some in
    omega (arith, few, bound.1 enough)
  where
    some : 0 < p.denominator * p.chamber
    some = grind arith

    enough : (p.denominator - p.numerator) * (1 * p.total_people) ≤ people * (p.denominator * p.chamber)
    enough = omega (arith, s.enough, mul-le-mul_right p.total_people (mul-le-mul_left (p.denominator - p.numerator) s.some_seat))

-- So nothing that grows from the set to at most the limit suits any number of seats.
pub stays_small : (p : Problem) → 1 ≤ p.denominator → 1 ≤ p.chamber → (n limit most : ℕ) (set : ℕ → Bool) (g : List ℕ)
    → people_of p (places_of n set) + (limit - length (places_of n set)) * most < (people_bounds p 1).0
    → filter (contains g) (places_below n) ≡ g → ((c : ℕ) → set c ≡ true → contains g c ≡ true) → length g ≤ limit → ((c : ℕ) → contains g c ≡ true → set c ≡ false → p.people c ≤ most)
    → (k : ℕ) → Suits p (people_of p g) k → ⊥
stays_small p some_denominator some_seats n limit most set g short in_order inside small few =
    below_bounds p some_denominator some_seats (people_of p g) (omega (arith, short, people_most n set g in_order inside p limit most small few))
