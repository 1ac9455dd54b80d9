-- What taking a piece answers where only its length is limited.
use Rattle.std.specs.Prelude.{◌≡◌, ℕ, ◌+◌, ◌-◌, ◌^◌, ◌<◌, ◌≤◌, ◌==◌, nat_lt, Bool, true, List, [], ◌∷◌, ◌++◌, length}
use Rattle.std.specs.Prelude.{Option, Some, None, Result, Ok, Err, if◌then◌else◌}
use Rattle.field_lines.specs.Fault.{most_bytes}
use Rattle.field_lines.specs.Source.{Given}
use Rattle.field_lines.specs.HeldBytes.{Pulled, MayCome, StaysEnded}
use Rattle.field_lines.specs.TakenPieces.{IsPlace, taken_bytes, piece_at}
use Rattle.field_lines.specs.LinesFrom.{FailsOnly}
use Rattle.field_lines.specs.ReadLine.{pieces_held}
use Rattle.field_lines.specs.PiecesFrom.{BeginsTooLong}
use Rattle.field_lines.specs.declared.fault.LineFault.{LineFault}
use Rattle.field_lines.specs.declared.fault.LineFault.TheVariants.{LineTooLong, TooManyLines, ReadFault, Memory}
use Rattle.field_lines.specs.declared.taken_pieces.TakenPiece.{TakenPiece}

-- what is wrong with a piece: it is too long, or its number is the last that there is
abbrev pub raw_fault_at : ℕ → ℕ → Option LineFault
raw_fault_at number count =
    if nat_lt most_bytes count then Some (LineTooLong number)
    else if number == 2 ^ 64 - 1 then Some Memory
    else None

-- what is taken of the piece of a number
abbrev pub AnswersTaken : ℕ → Pulled → List ℕ → Result (Option TakenPiece) LineFault → Pulled → Bool → Type 0
AnswersTaken number old pulled (Ok (Some t)) new ended =
    IsPlace new t.from t.to × (length (taken_bytes new t) ≤ most_bytes) × (number + 1 < 2 ^ 64)
    × ((later : List ℕ) → MayCome ended later
    → pieces_held number old (pulled ++ later) ≡ piece_at number new t ∷ pieces_held (number + 1) new later)
AnswersTaken number old pulled (Ok None) new ended = (ended ≡ true) × (old.bytes ++ pulled ≡ []) × (new.bytes ≡ [])
AnswersTaken number old pulled (Err (LineTooLong line)) new ended =
    (line ≡ number) × ((later : List ℕ) → BeginsTooLong number (pieces_held number old (pulled ++ later)))
AnswersTaken number old pulled (Err (ReadFault line)) new ended = line ≡ number
AnswersTaken number old pulled (Err Memory) new ended = number ≡ 2 ^ 64 - 1
AnswersTaken number old pulled (Err TooManyLines) new ended = ⊥

-- the piece of a number is taken
pub record TakesRaw (number : ℕ) (old : Pulled) (given_before : Given) (failed_before : Bool)
    (answer : Result (Option TakenPiece) LineFault) (new : Pulled) (given_after : Given)
    (failed_after : Bool) : Type 0 where
  pub pulled : List ℕ
  pub given : given_after.bytes ≡ given_before.bytes ++ pulled
  pub end : StaysEnded given_before.ended pulled given_after.ended
  pub answers : AnswersTaken number old pulled answer new given_after.ended
  pub failed : FailsOnly failed_before answer failed_after
