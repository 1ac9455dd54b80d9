-- The texts that are told to a worker: of rounds, and of open pieces.
use Rattle.std.specs.Prelude.{ℕ, Bool, false, List, [], ◌∷◌, codes, Result, Ok, Err, if◌then◌else◌}
use Rattle.field_lines.specs.RawPieces.{RawLine, raw_lines}
use Rattle.certificate_lines.specs.Lines.{begins}
use Rattle.certificate_lines.specs.Words.{line_words}
use Rattle.certificate_lines.specs.declared.fault.TextFault.{TextFault}
use Rattle.piece_states.specs.PieceValue.{PieceTold}
use Rattle.piece_states.specs.Text.{text_of_piece}
use Rattle.piece_states.specs.Reading.{piece_from, HasText}
use Rattle.worker_texts.specs.RoundText.{RoundTold, text_of_round, HasRoundText}
use Rattle.worker_texts.specs.RoundReading.{round_from}

-- what a text tells: a round, or an open piece
pub data WorkerTextTold : Type 0 where
  Round : (round : RoundTold) → WorkerTextTold
  Open : (piece : PieceTold) → WorkerTextTold

abbrev pub text_of : WorkerTextTold → List ℕ
text_of (Round round) = text_of_round round
text_of (Open piece) = text_of_piece piece.round piece.piece piece.told

-- all numbers are in the ranges of their lines
abbrev pub HasWorkerText : WorkerTextTold → Type 0
HasWorkerText (Round round) = HasRoundText round
HasWorkerText (Open piece) = HasText piece

-- whether the first line begins with the word `round`
abbrev pub names_round : List RawLine → Bool
names_round [] = false
names_round (piece ∷ pieces) = elim (line_words piece.bytes piece.ended) as (λ _. Bool) [
  | Ok words ↦ begins (codes "round") words
  | Err kind ↦ false
]

-- what lines tell, as a text of this form
abbrev pub in_form : {X : Type 0} → (X → WorkerTextTold) → Result X TextFault → Result WorkerTextTold TextFault
in_form form (Ok told) = Ok (form told)
in_form form (Err fault) = Err fault

-- What lines tell at their front, or their first fault. The first word names a round, or else an open piece.
abbrev pub text_from : List RawLine → Result WorkerTextTold TextFault
text_from lines =
    if names_round lines then in_form Round (round_from lines) else in_form Open (piece_from lines)

-- what is told at the front of a text, or the first fault
abbrev pub text_in : List ℕ → Result WorkerTextTold TextFault
text_in text = text_from (raw_lines text)
