-- Sets that strand a part.
use Rattle.std.proofs.Common.{◌≡◌, ℕ, ◌*◌, ◌-◌, ◌≤◌, ◌<◌, Bool, true, false, ◌&&◌, ◌||◌, not, List, length, refl, sym, ap, ◌∙◌, arith, inl, inr, ⊎_elim, mul-le-mul_right, mul-le-mul_left}
use Rattle.std.proofs.lemmas.Bool.{false≢true, and_parts, and_from}
use Rattle.place_sets.proofs.Sums.{total_within}
use Rattle.grouping_laws.specs.Sets.{contains}
use Rattle.grouping_laws.specs.Problem.{Problem, Suits, IsProblem, people_of}
use Rattle.grouping_laws.specs.SeatWindow.{people_bounds}
use Rattle.grouping_laws.specs.Parts.{IsPart}
use Rattle.grouping_laws.proofs.WindowLemmas.{above_quotient, pos_product}
use Rattle.grouping_laws.proofs.Parts.{within_part, has_hit}
use Rattle.connected_laws.specs.Growing.{IsExtension}
use Rattle.certificate_data.specs.declared.format.Format.TheVariants.{Wide}
use Rattle.certificate_laws.specs.State.{State}
use Rattle.certificate_laws.specs.Regions.{without}
use Rattle.certificate_laws.specs.StuckParts.{CannotFill}
use Rattle.certificate_laws.proofs.Counting.{no_more_often, not_longer}
use Rattle.certificate_laws.proofs.Regions.{part_around}
use Rattle.state_groups.specs.Stranding.{NoneFits, IsTooSmall, StrandedPart}

-- one seat asks for no more people than any number of seats
pub least_for_one : (p : Problem) → IsProblem p → (people k : ℕ) → Suits p people k → (people_bounds p 1).0 ≤ people
least_for_one p is people k s = (above_quotient ((p.denominator - p.numerator) * (1 * p.total_people)) (p.denominator * p.chamber) people (pos_product p.denominator p.chamber (omega (arith, is.tolerated)) is.some_seats)).1 (omega (arith, fewer, s.enough))
  where
    fewer : (p.denominator - p.numerator) * 1 * p.total_people ≤ (p.denominator - p.numerator) * k * p.total_people
    fewer = mul-le-mul_right p.total_people (mul-le-mul_left (p.denominator - p.numerator) s.some_seat)

-- what is kept back of a set is in the set and not free
pub kept_back : (a b d : Bool) → d ≡ (a && not b) → d ≡ true → (a ≡ true) × (b ≡ false)
kept_back a b d is e = (both.0, off b both.1)
  where
    both : (a ≡ true) × (not b ≡ true)
    both = and_parts a (not b) (sym is ∙ e)

    off : (b : Bool) → not b ≡ true → b ≡ false
    off false h = refl
    off true h = absurd (false≢true h)

module _ (p : Problem) (s : State) (n limit : ℕ) (set left free : ℕ → Bool) (is_left : (x : ℕ) → left x ≡ (s.rest x && not (set x))) where
  -- a place that the set leaves and that is not free is in no such group
  not_taken : (g : List ℕ) → IsExtension p n limit set free g → (c : ℕ) → left c ≡ true → free c ≡ false → without g s.rest c ≡ true
  not_taken g x c l k = and_from (s.rest c) (not (contains g c)) both.0 (off (contains g c) refl)
    where
      both : (s.rest c ≡ true) × (not (set c) ≡ true)
      both = and_parts (s.rest c) (not (set c)) (sym (is_left c) ∙ l)

      reach : (a b : Bool) → set c ≡ a → free c ≡ b → (a || b) ≡ true → ⊥
      reach true b e j o = false≢true (sym (ap not e) ∙ both.1)
      reach false true e j o = false≢true (sym k ∙ j)
      reach false false e j o = false≢true o

      off : (b : Bool) → contains g c ≡ b → not b ≡ true
      off false e = refl
      off true e = absurd (reach (set c) (free c) refl refl (x.within c e))

  -- what such a group leaves, the set leaves too
  left_by : (g : List ℕ) → IsExtension p n limit set free g → (c : ℕ) → without g s.rest c ≡ true → left c ≡ true
  left_by g x c r = is_left c ∙ and_from (s.rest c) (not (set c)) both.0 (off (set c) refl)
    where
      both : (s.rest c ≡ true) × (not (contains g c) ≡ true)
      both = and_parts (s.rest c) (not (contains g c)) r

      off : (z : Bool) → set c ≡ z → not z ≡ true
      off false e = refl
      off true e = absurd (false≢true (sym (ap not (x.has c e)) ∙ both.1))

  -- a part that no free place can reach stays as it is
  cut_off : (part : List ℕ) → IsPart p left part → ((c : ℕ) → contains part c ≡ true → free c ≡ false) → CannotFill p s part → NoneFits Wide p n limit s set free
  cut_off part is none stuck g x f = f.kept (record { part = part; is_part = record { once = is.once; connected = is.connected; inside = λ c m. not_taken g x c (is.inside c m) (none c m); whole = λ a b m r t. is.whole a b m (left_by g x b r) t }; stuck = stuck })

  -- the part around a place that is not free stays inside the part that is too small
  too_small : IsProblem p → ((c : ℕ) → s.rest c ≡ true → contains p.counties c ≡ true) → (part : List ℕ) → IsPart p left part → IsTooSmall p s free part → NoneFits Wide p n limit s set free
  too_small is known part whole small g x f = f.kept (record { part = r.0; is_part = r.1; stuck = ⊎_elim few_people few_places small.small })
    where
      listed : (c : ℕ) → without g s.rest c ≡ true → contains p.counties c ≡ true
      listed c e = known c (and_parts (s.rest c) (not (contains g c)) e).0

      r : (ys : List ℕ) × IsPart p (without g s.rest) ys × (contains ys small.place ≡ true)
      r = part_around p is (without g s.rest) listed small.place (not_taken g x small.place (whole.inside small.place small.there) small.not_free)

      within : (c : ℕ) → contains r.0 c ≡ true → contains part c ≡ true
      within = within_part p left part r.0 whole (λ c m. left_by g x c (r.1.inside c m)) r.1.connected (has_hit part r.0 small.place r.2 small.there)

      few_people : ((people k : ℕ) → people ≤ people_of p part → ¬ Suits p people k) → CannotFill p s r.0
      few_people none = inl (λ k. none (people_of p r.0) k (total_within p.people r.0 part (no_more_often r.0 part r.1.once within)))

      few_places : length part < s.least small.place → CannotFill p s r.0
      few_places few = inr (small.place, r.2, omega (arith, few, not_longer r.0 part r.1.once within))

  -- where a part is stranded, no such group fits
  pub stranded : IsProblem p → ((c : ℕ) → s.rest c ≡ true → contains p.counties c ≡ true) → StrandedPart p s left free → NoneFits Wide p n limit s set free
  stranded is known found = ⊎_elim (λ h. cut_off found.part found.is_part h.0 h.1) (too_small is known found.part found.is_part) found.stranded
