-- What one more piece adds to a cut text.
use Rattle.std.proofs.Common.{◌≡◌, ℕ, Bool, true, false, List, [], ◌∷◌, length, Option, Some, None, is_none, refl, ap, sym, ◌∙◌, ◌==◌, cond, arith}
use Rattle.std.proofs.lemmas.Bool.Decides.{nat_tests}
use Rattle.std.specs.List.{take_while, filter_map, slice_get}
use Rattle.std.proofs.lemmas.List.Sums.{take_while-cons}
use Rattle.field_lines.specs.RawPieces.{RawLine}
use Rattle.field_lines.specs.Cut.{Cut, cut_of, line_in, fault_in, line_bytes, fault_at, in_front}
use Rattle.field_lines.specs.declared.fault.LineFault.{LineFault}

module _ {X F : Type 0} (fault : X → Option F) (x : X) (xs : List X) where
  -- nothing before an item at fault
  sound-faulty : (f : F) → fault x ≡ Some f → take_while (λ y. is_none (fault y)) (x ∷ xs) ≡ []
  sound-faulty f is = take_while-cons (λ y. is_none (fault y)) x xs ∙ ap (λ o. cond (is_none o) (x ∷ take_while (λ y. is_none (fault y)) xs) []) is

  sound-sound : fault x ≡ None → take_while (λ y. is_none (fault y)) (x ∷ xs) ≡ x ∷ take_while (λ y. is_none (fault y)) xs
  sound-sound is = take_while-cons (λ y. is_none (fault y)) x xs ∙ ap (λ o. cond (is_none o) (x ∷ take_while (λ y. is_none (fault y)) xs) []) is

  first-faulty : (f : F) → fault x ≡ Some f → slice_get (filter_map fault (x ∷ xs)) 0 ≡ Some f
  first-faulty f is = rw is refl

  first-sound : fault x ≡ None → slice_get (filter_map fault (x ∷ xs)) 0 ≡ slice_get (filter_map fault xs) 0
  first-sound is = rw is refl

module _ (p : RawLine) (ps : List RawLine) where
  -- a piece at fault ends what is cut
  pub cut_of-faulty : (f : LineFault) → fault_in p ≡ Some f → cut_of (p ∷ ps) ≡ record { lines = []; fault = Some f }
  cut_of-faulty f is = rw (sound-faulty fault_in p ps f is, first-faulty fault_in p ps f is) refl

  -- a blank line adds nothing
  pub cut_of-blank : fault_in p ≡ None → line_bytes p.number p.bytes ≡ [] → cut_of (p ∷ ps) ≡ cut_of ps
  cut_of-blank is blank = rw (sound-sound fault_in p ps is, first-sound fault_in p ps is) (rw blank refl)

  -- another line comes in front
  pub cut_of-line : fault_in p ≡ None → (b : ℕ) (bytes : List ℕ) → line_bytes p.number p.bytes ≡ b ∷ bytes → cut_of (p ∷ ps) ≡ in_front (line_in p) (cut_of ps)
  cut_of-line is b bytes line = rw (sound-sound fault_in p ps is, first-sound fault_in p ps is) (rw line refl)

-- the same, by the test that the reader makes of the line
module _ (p : RawLine) (ps : List RawLine) (sound : fault_in p ≡ None) where
  line-tested : (l : List ℕ) → false ≡ (length l == 0) → l ≡ line_bytes p.number p.bytes → cut_of (p ∷ ps) ≡ in_front (record { number = p.number; bytes = l }) (cut_of ps)
  line-tested [] t is = absurd (grind (arith, nat_tests))
  line-tested (b ∷ bytes) t is = cut_of-line p ps sound b bytes (sym is) ∙ ap (λ (l : List ℕ). in_front (record { number = p.number; bytes = l }) (cut_of ps)) (sym is)

  blank-tested : (l : List ℕ) → true ≡ (length l == 0) → l ≡ line_bytes p.number p.bytes → cut_of (p ∷ ps) ≡ cut_of ps
  blank-tested [] t is = cut_of-blank p ps sound (sym is)
  blank-tested (b ∷ bytes) t is = absurd (grind (arith, nat_tests))

-- the line of the first piece, which has no fault
module _ (old : Cut) (pieces : List RawLine) (n : ℕ) (bytes : List ℕ) (ended : Bool) (ps : List RawLine) (line : List ℕ)
    (same : cut_of pieces ≡ old) (first : pieces ≡ record { number = n; bytes = bytes; ended = ended } ∷ ps)
    (sound : fault_at n bytes ≡ None) (is : line ≡ line_bytes n bytes) where
  pub cut_of-line_next : false ≡ (length line == 0) → old ≡ in_front (record { number = n; bytes = line }) (cut_of ps)
  cut_of-line_next t = sym same ∙ ap cut_of first ∙ line-tested (record { number = n; bytes = bytes; ended = ended }) ps sound line t is

  pub cut_of-blank_next : true ≡ (length line == 0) → cut_of ps ≡ old
  cut_of-blank_next t = sym (blank-tested (record { number = n; bytes = bytes; ended = ended }) ps sound line t is) ∙ ap cut_of (sym first) ∙ same
