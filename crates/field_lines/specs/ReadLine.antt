-- What taking a piece or a line of the bytes that were pulled answers.
use Rattle.std.specs.Prelude.{◌≡◌, ℕ, ◌+◌, ◌≤◌, Bool, true, List, [], ◌∷◌, ◌++◌, length, slice_range, Option}
use Rattle.std.specs.Prelude.{Some, None, Result, Ok, Err}
use Rattle.field_lines.specs.RawPieces.{RawLine, raw_lines_from}
use Rattle.field_lines.specs.Fault.{most_bytes}
use Rattle.field_lines.specs.Cut.{fault_at, cut_of, line_bytes}
use Rattle.field_lines.specs.Source.{Given}
use Rattle.field_lines.specs.HeldBytes.{Pulled, MayCome, StaysEnded}
use Rattle.field_lines.specs.TakenPieces.{IsPlace, taken_bytes, piece_at, line_taken}
use Rattle.field_lines.specs.LinesFrom.{no_line, AnswersCut, FailsOnly, IsAtLine}
use Rattle.field_lines.specs.declared.fault.LineFault.{LineFault}
use Rattle.field_lines.specs.declared.fault.LineFault.TheVariants.{ReadFault, Memory}
use Rattle.field_lines.specs.declared.taken_pieces.TakenPiece.{TakenPiece}
use Rattle.field_lines.specs.declared.taken_pieces.TakenLine.{TakenLine}

-- where what is held is a part of a text, the pieces of that text from a number on
abbrev pub pieces_held : ℕ → Pulled → List ℕ → List RawLine
pieces_held number held later = raw_lines_from number (held.bytes ++ later)

-- what is taken of the piece of a number
abbrev pub AnswersPiece : ℕ → Pulled → List ℕ → Result (Option TakenPiece) LineFault → Pulled → Bool → Type 0
AnswersPiece number old pulled (Ok (Some t)) new ended =
    IsPlace new t.from t.to × (fault_at number (taken_bytes new t) ≡ None)
    × ((later : List ℕ) → MayCome ended later
    → pieces_held number old (pulled ++ later) ≡ piece_at number new t ∷ pieces_held (number + 1) new later)
AnswersPiece number old pulled (Ok None) new ended = (ended ≡ true) × (old.bytes ++ pulled ≡ []) × (new.bytes ≡ [])
AnswersPiece number old pulled (Err (ReadFault line)) new ended = line ≡ number
AnswersPiece number old pulled (Err Memory) new ended = ⊥
AnswersPiece number old pulled (Err fault) new ended =
    (later : List ℕ) → cut_of (pieces_held number old (pulled ++ later)) ≡ no_line (Some fault)

-- the piece of a number is taken
pub record TakesPiece (number : ℕ) (old : Pulled) (given_before : Given) (failed_before : Bool)
    (answer : Result (Option TakenPiece) LineFault) (new : Pulled) (given_after : Given)
    (failed_after : Bool) : Type 0 where
  pub pulled : List ℕ
  pub given : given_after.bytes ≡ given_before.bytes ++ pulled
  pub end : StaysEnded given_before.ended pulled given_after.ended
  pub answers : AnswersPiece number old pulled answer new given_after.ended
  pub failed : FailsOnly failed_before answer failed_after

-- where a line lies, and which it is
abbrev pub IsLine : ℕ → Pulled → Result (Option TakenLine) LineFault → Type 0
IsLine number held (Ok (Some t)) =
    IsPlace held t.from t.to × (t.number + 1 ≡ number)
    × (1 ≤ length (line_bytes t.number (slice_range held.taken t.from t.to)))
    × (length (slice_range held.taken t.from t.to) ≤ most_bytes)
IsLine number held answer = Unit {0}

-- the next line that isn't blank is taken
pub record TakesLine (number_before : ℕ) (old : Pulled) (given_before : Given) (failed_before : Bool)
    (answer : Result (Option TakenLine) LineFault) (number : ℕ) (new : Pulled) (given_after : Given)
    (failed_after : Bool) : Type 0 where
  pub pulled : List ℕ
  pub given : given_after.bytes ≡ given_before.bytes ++ pulled
  pub end : StaysEnded given_before.ended pulled given_after.ended
  pub answers : AnswersCut (λ later. cut_of (pieces_held number_before old later)) pulled
      (λ later. cut_of (pieces_held number new later)) given_after.ended (line_taken new answer)
  pub failed : FailsOnly failed_before answer failed_after
  pub place : IsLine number new answer
  pub read_fault : IsAtLine answer number
