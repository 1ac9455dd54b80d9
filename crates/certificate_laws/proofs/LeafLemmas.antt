-- At a state that can be completed no part of the rest is stuck, and the seats are not off.
use Rattle.std.proofs.Common.{◌≡◌, ℕ, true, List, ◌++◌, sym, ◌∙◌, arith, inl, inr, ⊎_elim}
use Rattle.grouping_laws.specs.Sets.{count_in, contains}
use Rattle.grouping_laws.specs.Problem.{Problem, Suits, people_of}
use Rattle.grouping_laws.specs.Grouping.{Grouping, sets_of, seats_of}
use Rattle.grouping_laws.specs.Parts.{IsPart}
use Rattle.place_sets.proofs.Sums.{sum_by-append, digit_one}
use Rattle.grouping_laws.proofs.Elements.{has_all}
use Rattle.grouping_laws.proofs.Digits.{true_digit}
use Rattle.grouping_laws.proofs.Parts.{FillRegion, inner, part_suits, has_from_stands, has_hit, within_part}
use Rattle.grouping_laws.proofs.Seated.{parts_seated, AllZip-append, least_sum, most_sum}
use Rattle.certificate_laws.specs.State.{State}
use Rattle.certificate_laws.specs.StuckParts.{CannotFill, StuckPart}
use Rattle.certificate_laws.specs.Leaves.{IsOffSeats}
use Rattle.certificate_laws.proofs.Completion.{IsWhole, Completes, group_rest, group_lawful}
use Rattle.certificate_laws.proofs.Counting.{not_longer}

module _ (p : Problem) (s : State) (whole : IsWhole p s) (opens : Grouping) (c : Completes p s opens) where
  fill : FillRegion p s.rest opens
  fill = record {
    inside = group_rest p s whole opens c;
    connected = c.connected;
    suits = c.suits;
  }

  covered : (xs : List ℕ) → IsPart p s.rest xs → (x : ℕ) → contains xs x ≡ true → count_in x (sets_of opens) ≡ 1
  covered xs part x e = omega (arith, c.once x, true_digit (s.rest x) (part.inside x e))

  pub part_is_filled : (xs : List ℕ) → IsPart p s.rest xs → CannotFill p s xs → ⊥
  part_is_filled xs part (inl none) = none (seats_of (inner p s.rest xs part opens fill)) (part_suits p s.rest xs part opens fill (covered xs part))
  part_is_filled xs part (inr few) =
      let m = has_from_stands few.0 opens (omega (arith, covered xs part few.0 few.1)) in
      let lawful = group_lawful p s whole opens c m.0 m.1 in
      let within = within_part p s.rest xs m.0.codes part (fill.inside m.0 m.1) (c.connected m.0 m.1) (has_hit xs m.0.codes few.0 m.2 few.1) in
      omega (arith, c.large m.0 m.1 few.0 m.2, not_longer m.0.codes xs lawful.once within, few.2)

  pub none_stuck : StuckPart p s s.rest → ⊥
  none_stuck v = part_is_filled v.part v.is_part v.stuck

  pub seats_fit : IsOffSeats p s → ⊥
  seats_fit v =
      let own = parts_seated p s.rest v.parts opens fill (has_all (IsPart p s.rest) v.parts v.are_parts.each)
      (λ x. c.once x ∙ sym (v.are_parts.once x)) (λ x. omega (arith, v.are_parts.once x, digit_one (s.rest x))) in
      let both = AllZip-append (λ xs k. Suits p (people_of p xs) k) s.closed c.seats v.parts own.0 c.closed_suits own.1 in
      let sum = sum_by-append (λ k. k) c.seats own.0 in
      ⊎_elim
      (λ h. omega (arith, h.1, least_sum p (s.closed ++ v.parts) v.ranges (c.seats ++ own.0) h.0 both, sum, own.2, c.all_seats))
      (λ h. omega (arith, h.1, most_sum p (s.closed ++ v.parts) v.ranges (c.seats ++ own.0) h.0 both, sum, own.2, c.all_seats))
      v.off
