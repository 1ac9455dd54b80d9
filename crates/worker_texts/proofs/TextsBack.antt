-- What is spelled at the front of a text is read.
use Rattle.std.proofs.Common.{◌≡◌, ℕ, ◌<◌, Bool, true, false, List, [], ◌∷◌, ◌++◌, codes, length, map, take, Result, Ok, Err, refl, ap, ◌∙◌, arith, append_assoc, length-append, length-take, if◌then◌else◌}
use Rattle.std.specs.List.{join_with_byte}
use Rattle.std.specs.Result.{IfOk}
use Rattle.field_lines.specs.RawPieces.{RawLine, raw_lines, raw_lines_from}
use Rattle.certificate_lines.specs.Items.{by_words}
use Rattle.certificate_lines.specs.Lines.{begins, named}
use Rattle.certificate_lines.specs.Rest.{text_fault_at}
use Rattle.certificate_lines.specs.Spelling.{text_of_items}
use Rattle.certificate_lines.specs.Words.{line_words}
use Rattle.certificate_lines.specs.declared.fault.TextFault.{TextFault}
use Rattle.certificate_lines.specs.declared.fault.TextKind.{TextKind}
use Rattle.certificate_lines.specs.declared.item.Item.TheVariants.{Grouped}
use Rattle.certificate_lines.proofs.FormLaws.{named_ok}
use Rattle.certificate_lines.proofs.WordLaws.{bind_ok}
use Rattle.certificate_text.proofs.TextBack.{line_cut}
use Rattle.piece_states.specs.PieceValue.{PieceTold}
use Rattle.piece_states.specs.Text.{open_words, line_of, text_of_told}
use Rattle.piece_states.specs.TextLines.{open_on}
use Rattle.piece_states.specs.Reading.{told_from, piece_with, piece_from}
use Rattle.piece_states.proofs.ToldBack.{piece_back}
use Rattle.worker_texts.specs.RoundText.{RoundTold, round_words, text_of_round, HasRoundText}
use Rattle.worker_texts.specs.RoundReading.{round_on, groups_from, round_with, round_from}
use Rattle.worker_texts.specs.WorkerText.{WorkerTextTold, Round, Open, text_of, HasWorkerText, names_round, in_form, text_in}
use Rattle.worker_texts.proofs.FirstLines.{round_ok, round_back}
use Rattle.worker_texts.proofs.GroupsFit.{groups_back}

-- what a first line tells with those behind it
abbrev pub round_by_first : List RawLine → Result (ℕ × ℕ × ℕ) TextKind → Result RoundTold TextFault
round_by_first pieces r = elim r as (λ _. Result RoundTold TextFault) [
  | Ok first ↦ round_with first (groups_from first.2 2 pieces)
  | Err kind ↦ Err (text_fault_at kind 1)
]

abbrev pub piece_by_first : List RawLine → Result (ℕ × ℕ) TextKind → Result PieceTold TextFault
piece_by_first pieces r = elim r as (λ _. Result PieceTold TextFault) [
  | Ok first ↦ piece_with first (told_from true 2 pieces)
  | Err kind ↦ Err (text_fault_at kind 1)
]

-- the word that the words of a first line name
abbrev by_name : Result (List (List ℕ)) TextKind → Bool
by_name r = elim r as (λ _. Bool) [
  | Ok words ↦ begins (codes "round") words
  | Err kind ↦ false
]

-- the lines that are read as a round name it
round_named : (lines : List RawLine) (round : RoundTold) → round_from lines ≡ Ok round → names_round lines ≡ true
round_named [] round h = cc
round_named (piece ∷ pieces) round h = go (by_words round_on piece) refl h
  where
    go : (r : Result (ℕ × ℕ × ℕ) TextKind) → by_words round_on piece ≡ r → round_by_first pieces r ≡ Ok round → names_round (piece ∷ pieces) ≡ true
    go (Ok first) e k =
        let w = bind_ok (line_words piece.bytes piece.ended) round_on first e in
        ap by_name w.first ∙ ap (begins (codes "round")) (round_ok w.value first w.then).words_are
    go (Err kind) e k = cc

open_named : (words : List (List ℕ)) (first : ℕ × ℕ) → open_on words ≡ Ok first → begins (codes "round") words ≡ false
unfolding open_on
open_named words first h =
    let z = bind_ok (named (codes "open") words) _ first h in
    ap (begins (codes "round")) (named_ok (codes "open") words z.value z.first)

-- those that are read as an open piece don't
piece_named : (lines : List RawLine) (told : PieceTold) → piece_from lines ≡ Ok told → names_round lines ≡ false
piece_named [] told h = refl
piece_named (piece ∷ pieces) told h = go (by_words open_on piece) refl h
  where
    go : (r : Result (ℕ × ℕ) TextKind) → by_words open_on piece ≡ r → piece_by_first pieces r ≡ Ok told → names_round (piece ∷ pieces) ≡ false
    go (Ok first) e k =
        let w = bind_ok (line_words piece.bytes piece.ended) open_on first e in
        ap by_name w.first ∙ open_named w.value first w.then
    go (Err kind) e k = cc

-- a round that is spelled is read from the lines
round_lines_back : (round : RoundTold) (rest text : List ℕ) → HasRoundText round → text ≡ text_of_round round ++ rest → round_from (raw_lines text) ≡ Ok round
round_lines_back round rest text has is =
    let first : ℕ × ℕ × ℕ = (round.number, round.limit, length round.target) in
    let line = round_back first (record { number = has.number; limit = has.limit; groups = has.groups }) in
    let bytes = join_with_byte 32 (round_words round) in
    let behind = text_of_items (map Grouped round.target) ++ rest in
    ap (λ (t : List ℕ). round_from (raw_lines t)) (is ∙ (append_assoc (line_of (round_words round)) (text_of_items (map Grouped round.target)) rest ∙ append_assoc bytes (10 ∷ []) behind))
    ∙ (ap round_from (line_cut 1 bytes behind line.printed)
    ∙ (ap (round_by_first (raw_lines_from 2 behind)) (line.read_as 1)
    ∙ ap (round_with first) (groups_back (length round.target) 2 round.target rest refl has.each)))

-- the form that the first word names
abbrev pub by_form : List RawLine → Bool → Result WorkerTextTold TextFault
by_form lines b = if b then in_form Round (round_from lines) else in_form Open (piece_from lines)

pub text_back : (told : WorkerTextTold) (rest text : List ℕ) → HasWorkerText told → text ≡ text_of told ++ rest → text_in text ≡ Ok told
text_back (Round round) rest text has is =
    let back = round_lines_back round rest text has is in
    ap (by_form (raw_lines text)) (round_named (raw_lines text) round back) ∙ ap (in_form Round) back
text_back (Open piece) rest text has is =
    let back = piece_back piece rest text has is in
    ap (by_form (raw_lines text)) (piece_named (raw_lines text) piece back) ∙ ap (in_form Open) back

-- a text is spelled by one byte or more
pub some_bytes : (told : WorkerTextTold) → 0 < length (text_of told)
some_bytes (Round round) =
    omega (arith, length-append (line_of (round_words round)) (text_of_items (map Grouped round.target)), length-append (join_with_byte 32 (round_words round)) (10 ∷ []))
some_bytes (Open piece) =
    let words = open_words piece.round piece.piece in
    omega (arith, length-append (line_of words) (text_of_told piece.told), length-append (join_with_byte 32 words) (10 ∷ []))

-- a text that is read has at least one byte
pub some_read : {X : Type 0} (view : X → WorkerTextTold) (many : X → ℕ) (text : List ℕ) (r : Result X TextFault) → IfOk r (λ x. take (many x) text ≡ text_of (view x)) → IfOk r (λ x. 0 < many x)
some_read view many text (Ok x) is = omega (arith, some_bytes (view x), ap length is, length-take (many x) text)
some_read view many text (Err fault) is = tt
