-- What is spelled as an open piece is read as that piece.
use Rattle.std.proofs.Common.{◌≡◌, ℕ, ◌+◌, ◌≤◌, Bool, true, false, List, [], ◌∷◌, ◌++◌, map, codes, Result, Ok, Err, refl, ap, sym, ◌∙◌, arith, lit<, append_assoc}
use Rattle.std.specs.Fmt.{decimal}
use Rattle.std.specs.List.{AllByRecursion, flat_map, join_with_byte}
use Rattle.std.proofs.lemmas.Bool.{false≢true}
use Rattle.field_lines.specs.RawPieces.{RawLine, raw_lines_from}
use Rattle.county_codes.specs.Digits.{five_digits}
use Rattle.certificate_lines.specs.Lines.{most}
use Rattle.certificate_lines.specs.Fitting.{IsSet}
use Rattle.field_lines.specs.Values.{GivesUnless}
use Rattle.certificate_lines.specs.Rest.{text_fault_at, IsTextMemory}
use Rattle.certificate_lines.specs.Reading.{IsUnlessMemory}
use Rattle.certificate_text.proofs.GiveLaws.{memory_only}
use Rattle.certificate_lines.specs.declared.fault.TextFault.{TextFault}
use Rattle.certificate_lines.specs.declared.fault.TextKind.{TextKind}
use Rattle.certificate_text.proofs.SpellLaws.{counted_back, number_at_back, code_at_back, codes_back}
use Rattle.certificate_text.proofs.TextBack.{named_word, code_word, code_words, length_map, line_cut}
use Rattle.piece_states.specs.declared.line.ToldLine.{ToldLine}
use Rattle.piece_states.specs.declared.line.ToldLine.TheVariants.{Closed, Least, End}
use Rattle.piece_states.specs.Told.{Asked}
use Rattle.piece_states.specs.PieceValue.{PieceTold}
use Rattle.piece_states.specs.Text.{open_words, closed_words, asked_words, line_of, text_of_told, text_of_piece}
use Rattle.piece_states.specs.TextLines.{greatest, greatest_size, open_on, closed_on, least_on, told_on}
use Rattle.piece_states.specs.Reading.{told_behind, told_with, told_from, piece_with, piece_from, piece_in, FitsAsked, HasText}
use Rattle.piece_states.proofs.LineWords.{IsRead, number_word, said}
use Rattle.piece_states.proofs.LinesRead.{told_words, FitsTold}
use Rattle.piece_states.proofs.ReadSteps.{told_by_line}

open_back : (round piece : ℕ) → round ≤ greatest → piece ≤ greatest → open_on (open_words round piece) ≡ Ok (round, piece)
unfolding open_on
open_back round piece f g = rw (number_at_back 0 greatest round (decimal piece ∷ []) (omega arith) f (lit< tt), number_at_back 0 greatest piece [] (omega arith) g (lit< tt)) refl

closed_back : (group : List ℕ) → IsSet group → told_on true (closed_words group) ≡ Ok (Closed group)
unfolding told_on closed_on
closed_back group set =
    rw (counted_back 1 most (map five_digits group) (omega (arith, length_map five_digits group, set.some)) (omega (arith, length_map five_digits group, set.few)), codes_back group set.small) refl

least_back : (closing : Bool) (c n : ℕ) → c ≤ 99999 → 1 ≤ n → n ≤ greatest_size → told_on closing (asked_words (record { county = c; size = n })) ≡ Ok (Least (record { county = c; size = n }))
unfolding told_on least_on
least_back closing c n small low high = rw (code_at_back c (decimal n ∷ []) small, number_at_back 1 greatest_size n [] low high (lit< tt)) refl

end_back : (closing : Bool) → told_on closing (codes "end" ∷ []) ≡ Ok End
unfolding told_on
end_back closing = refl

line_back : (closing : Bool) (line : ToldLine) → FitsTold closing line → IsRead (told_on closing) (told_words line) line
line_back true (Closed group) fits =
    said (told_on true) (codes "closed") (map five_digits group) (Closed group) (named_word (codes "closed") refl (omega arith) (omega arith)) (code_words group fits.1.small) (omega (arith, length_map five_digits group, fits.1.few)) (closed_back group fits.1)
line_back false (Closed group) fits = absurd (false≢true fits.0)
line_back closing (Least a) fits =
    said (told_on closing) (codes "least") (five_digits a.county ∷ decimal a.size ∷ []) (Least a) (named_word (codes "least") refl (omega arith) (omega arith)) (code_word a.county fits.0, (number_word a.size (omega (arith, fits.2)), tt)) (omega arith)
    (least_back closing a.county a.size fits.0 fits.1 fits.2)
line_back closing End fits = said (told_on closing) (codes "end") [] End (named_word (codes "end") refl (omega arith) (omega arith)) tt (omega arith) (end_back closing)

-- the line is cut off, and what is behind it is read then
line_step : (closing : Bool) (n : ℕ) (line : ToldLine) (later : List ℕ) → FitsTold closing line
    → told_from closing n (raw_lines_from n (line_of (told_words line) ++ later)) ≡ told_with line (told_from closing (n + 1) (raw_lines_from (n + 1) later)) (told_from false (n + 1) (raw_lines_from (n + 1) later))
line_step closing n line later fits =
    let is = line_back closing line fits in
    let bytes = join_with_byte 32 (told_words line) in
    ap (λ (t : List ℕ). told_from closing n (raw_lines_from n t)) (append_assoc bytes (10 ∷ []) later)
    ∙ (ap (told_from closing n) (line_cut n bytes later is.printed)
    ∙ ap (told_by_line closing n (raw_lines_from (n + 1) later)) (is.read_as n))

asked_back : (closing : Bool) (n : ℕ) (asked : List Asked) (rest : List ℕ) → AllByRecursion FitsAsked asked
    → told_from closing n (raw_lines_from n ((flat_map (λ a. line_of (asked_words a)) asked ++ codes "end\n") ++ rest)) ≡ Ok (record { closed = []; asked = asked })
asked_back closing n [] rest fit = line_step closing n End rest tt
asked_back closing n (a ∷ asked) rest fit =
    let line = λ (b : Asked). line_of (asked_words b) in
    let behind = (flat_map line asked ++ codes "end\n") ++ rest in
    let held = Least (record { county = a.county; size = a.size }) in
    ap (λ (t : List ℕ). told_from closing n (raw_lines_from n t)) (ap (λ (t : List ℕ). t ++ rest) (append_assoc (line a) (flat_map line asked) (codes "end\n")) ∙ append_assoc (line a) (flat_map line asked ++ codes "end\n") rest)
    ∙ (line_step closing n held behind fit.0
    ∙ ap (told_behind [] (a ∷ [])) (asked_back false (n + 1) asked rest fit.1))

told_back : (n : ℕ) (groups : List (List ℕ)) (asked : List Asked) (rest : List ℕ) → AllByRecursion IsSet groups → AllByRecursion FitsAsked asked
    → told_from true n (raw_lines_from n (text_of_told (record { closed = groups; asked = asked }) ++ rest)) ≡ Ok (record { closed = groups; asked = asked })
told_back n [] asked rest sets fit = asked_back true n asked rest fit
told_back n (g ∷ groups) asked rest sets fit =
    let line = λ (h : List ℕ). line_of (closed_words h) in
    let last = flat_map (λ a. line_of (asked_words a)) asked ++ codes "end\n" in
    let behind = (flat_map line groups ++ last) ++ rest in
    ap (λ (t : List ℕ). told_from true n (raw_lines_from n t)) (ap (λ (t : List ℕ). t ++ rest) (append_assoc (line g) (flat_map line groups) last) ∙ append_assoc (line g) (flat_map line groups ++ last) rest)
    ∙ (line_step true n (Closed g) behind (refl, sets.0)
    ∙ ap (told_behind (g ∷ []) []) (told_back (n + 1) groups asked rest sets.1 fit))

by_first : List RawLine → Result (ℕ × ℕ) TextKind → Result PieceTold TextFault
by_first pieces r = elim r as (λ _. Result PieceTold TextFault) [
  | Ok first ↦ piece_with first (told_from true 2 pieces)
  | Err kind ↦ Err (text_fault_at kind 1)
]

pub piece_back : (piece : PieceTold) (rest text : List ℕ) → HasText piece → text ≡ text_of_piece piece.round piece.piece piece.told ++ rest → piece_in text ≡ Ok piece
unfolding by_first
piece_back piece rest text has is =
    let words = open_words piece.round piece.piece in
    let bytes = join_with_byte 32 words in
    let behind = text_of_told piece.told ++ rest in
    let first = said open_on (codes "open") (decimal piece.round ∷ decimal piece.piece ∷ []) (piece.round, piece.piece) (named_word (codes "open") refl (omega arith) (omega arith)) (number_word piece.round has.round, (number_word piece.piece has.number, tt)) (omega arith)
    (open_back piece.round piece.piece has.round has.number) in
    ap piece_in (is ∙ (append_assoc (line_of words) (text_of_told piece.told) rest ∙ append_assoc bytes (10 ∷ []) behind))
    ∙ (ap piece_from (line_cut 1 bytes behind first.printed)
    ∙ (ap (by_first (raw_lines_from 2 behind)) (first.read_as 1)
    ∙ ap (piece_with (piece.round, piece.piece)) (told_back 2 piece.told.closed piece.told.asked rest has.closed has.asked)))

same_ok : {V : Type 0} (x y : V) → ◌≡◌ {A = Result V TextFault} (Ok x) (Ok y) → x ≡ y
same_ok x y h = cc

not_both : {V : Type 0} (fault : TextFault) (v : V) → ◌≡◌ {A = Result V TextFault} (Err fault) (Ok v) → ⊥
not_both fault v h = cc

-- what is given is read, unless memory was refused
pub only_read : {X V : Type 0} (view : X → V) (r : Result X TextFault) (v : V) (given : Result V TextFault) → given ≡ Ok v → GivesUnless IsTextMemory view r given → IsUnlessMemory view r v
only_read view (Ok x) v given is gives = same_ok (view x) v (sym gives ∙ is)
only_read view (Err fault) v given is gives = memory_only fault.kind (λ other. not_both fault v (sym (gives other) ∙ is))
