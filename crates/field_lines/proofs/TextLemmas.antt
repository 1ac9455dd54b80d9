-- The pieces of a text make the text, and their numbers ascend.
use Rattle.std.proofs.Common.{◌≡◌, ℕ, ◌+◌, ◌<◌, ◌≤◌, List, [], ◌∷◌, ◌++◌, map, Some, None, refl, sym, ap, ◌∙◌, append_assoc, append-nil, arith, suc, zero, add-one, true, false, subst}
use Rattle.std.specs.List.{slice_split, join_with_byte}
use Rattle.std.specs.List.Sorted.{IsStrictlyIncreasing}
use Rattle.std.proofs.lemmas.List.Splits.{join_with_byte-slice_split}
use Rattle.field_lines.specs.RawPieces.{RawLine, is_lf, numbered, raw_lines_from, text_of}
use Rattle.field_lines.specs.Cut.{Cut, Line, cut_of, line_in, fault_in, line_bytes}
use Rattle.field_lines.proofs.CutLemmas.{cut_of-faulty, cut_of-blank, cut_of-line}

text_of-numbered : (n : ℕ) (parts : List (List ℕ)) → text_of (numbered n parts) ≡ join_with_byte 10 parts
text_of-numbered n [] = refl
text_of-numbered n ([] ∷ []) = refl
text_of-numbered n ((b ∷ part) ∷ []) = append-nil (b ∷ part)
text_of-numbered n (part ∷ next ∷ more) =
    append_assoc part (10 ∷ []) (text_of (numbered (n + 1) (next ∷ more)))
    ∙ ap (λ (rest : List ℕ). part ++ 10 ∷ rest) (text_of-numbered (n + 1) (next ∷ more))

-- the pieces make the text
pub text_of-raw_lines : (n : ℕ) (text : List ℕ) → text_of (raw_lines_from n text) ≡ text
text_of-raw_lines n text = text_of-numbered n (slice_split is_lf text) ∙ join_with_byte-slice_split 10 text

increasing-cons : (x y : ℕ) (ys : List ℕ) → x < y → IsStrictlyIncreasing (y ∷ ys) → IsStrictlyIncreasing (x ∷ y ∷ ys)
increasing-cons x y ys lt rise zero = λ short. lt
increasing-cons x y ys lt rise (suc k) = λ short. rw add-one (rw add-one at (rise k (omega arith)))

-- the first line, where there is one, has a number from n on
abbrev first_from : ℕ → List Line → Type 0
first_from n [] = Unit {0}
first_from n (l ∷ ls) = n ≤ l.number

abbrev numbers : List Line → List ℕ
numbers lines = map (λ l. l.number) lines

-- the lines ascend from n on
record Ascend (n : ℕ) (lines : List Line) : Type 0 where
  from_n : first_from n lines
  ascend : IsStrictlyIncreasing (numbers lines)

ascend-nil : (n : ℕ) → Ascend n []
ascend-nil n = record { from_n = tt; ascend = λ k lt. absurd (omega arith) }

ascend-later : (n : ℕ) (lines : List Line) → Ascend (n + 1) lines → Ascend n lines
ascend-later n [] a = ascend-nil n
ascend-later n (l ∷ ls) a = record { from_n = let h : n + 1 ≤ l.number = a.from_n in omega arith; ascend = a.ascend }

ascend-cons : (l : Line) (lines : List Line) → Ascend (l.number + 1) lines → Ascend l.number (l ∷ lines)
ascend-cons l [] a = record { from_n = omega arith; ascend = λ k lt. absurd (omega arith) }
ascend-cons l (m ∷ ls) a = record {
  from_n = omega arith;
  ascend = λ k lt. increasing-cons l.number m.number (numbers ls) (let h : l.number + 1 ≤ m.number = a.from_n in omega arith) a.ascend k lt;
}

-- one more piece
ascend-piece : (p : RawLine) (ps : List RawLine) → Ascend (p.number + 1) (cut_of ps).lines → Ascend p.number (cut_of (p ∷ ps)).lines
ascend-piece p ps later =
    let P : Cut → Type 0 = λ c. Ascend p.number c.lines in
    elim (fault_in p) as (λ o. fault_in p ≡ o → P (cut_of (p ∷ ps))) [
      | Some f ↦ λ is. subst P (sym (cut_of-faulty p ps f is)) (ascend-nil p.number)
      | None ↦ λ is. elim (line_bytes p.number p.bytes) as (λ l. line_bytes p.number p.bytes ≡ l → P (cut_of (p ∷ ps))) [
        | [] ↦ λ blank. subst P (sym (cut_of-blank p ps is blank)) (ascend-later p.number (cut_of ps).lines later)
        | b ∷ bytes ↦ λ line. subst P (sym (cut_of-line p ps is b bytes line)) (ascend-cons (line_in p) (cut_of ps).lines later)
      ] refl
    ] refl

ascend-numbered : (n : ℕ) (parts : List (List ℕ)) → Ascend n (cut_of (numbered n parts)).lines
ascend-numbered n [] = ascend-nil n
ascend-numbered n ([] ∷ []) = ascend-nil n
ascend-numbered n ((b ∷ part) ∷ []) = ascend-piece (record { number = n; bytes = b ∷ part; ended = false }) [] (ascend-nil (n + 1))
ascend-numbered n (part ∷ next ∷ more) = ascend-piece (record { number = n; bytes = part; ended = true }) (numbered (n + 1) (next ∷ more)) (ascend-numbered (n + 1) (next ∷ more))

-- the numbers of the lines of a text ascend
pub numbers-ascend : (n : ℕ) (text : List ℕ) → IsStrictlyIncreasing (map (λ l. l.number) (cut_of (raw_lines_from n text)).lines)
numbers-ascend n text = (ascend-numbered n (slice_split is_lf text)).ascend
