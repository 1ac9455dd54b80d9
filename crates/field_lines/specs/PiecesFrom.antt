-- Pieces that are read from a source.
use Rattle.std.specs.Prelude.{◌≡◌, ℕ, ◌-◌, ◌^◌, ◌<◌, Bool, true, List, [], ◌∷◌, ◌++◌, length, Option, Some, None}
use Rattle.std.specs.Prelude.{Result, Ok, Err, OnOk, OnSome, IfOk}
use Rattle.field_lines.specs.RawPieces.{RawLine, raw_lines_from}
use Rattle.field_lines.specs.TextPiece.{raw_of}
use Rattle.field_lines.specs.Fault.{most_bytes}
use Rattle.field_lines.specs.Source.{Given}
use Rattle.field_lines.specs.HeldBytes.{MayCome, StaysEnded}
use Rattle.field_lines.specs.LinesFrom.{LinesHeld, FailsOnly, fault_answered, IsAtLine}
use Rattle.field_lines.specs.declared.raw_pieces.TextPiece.{TextPiece}
use Rattle.field_lines.specs.declared.fault.LineFault.{LineFault}
use Rattle.field_lines.specs.declared.fault.LineFault.TheVariants.{LineTooLong, TooManyLines, ReadFault, Memory}

-- what is left of pieces that are read: the pieces, by the bytes that come later; the fault that was answered; and how
-- many pieces there are at most
pub record PiecesLeft : Type 0 where
  pub pieces : List ℕ → List RawLine
  pub fault : Option LineFault
  pub most : ℕ

-- what a reader of pieces has left
abbrev pub pieces_left : LinesHeld → PiecesLeft
pieces_left h = record {
  pieces = λ later. raw_lines_from h.number (h.bytes ++ later);
  fault = h.fault;
  most = 2 ^ 64 - h.number;
}

-- what pieces of a text in memory have left: no byte comes later
abbrev pub pieces_of_text : List RawLine → PiecesLeft
pieces_of_text ps = record { pieces = λ later. ps; fault = None; most = length ps }

-- the first piece has this number, and more bytes than a line may have
abbrev pub BeginsTooLong : ℕ → List RawLine → Type 0
BeginsTooLong number [] = ⊥
BeginsTooLong number (p ∷ ps) = (p.number ≡ number) × (most_bytes < length p.bytes)

-- What is answered where `old` was left, and these bytes were pulled: whatever comes later, the first of the pieces, or
-- that it is too long; at the end that there is none.
abbrev pub AnswersPieces : (List ℕ → List RawLine) → List ℕ → (List ℕ → List RawLine) → Bool
    → Result (Option TextPiece) LineFault → Type 0
AnswersPieces old pulled new ended (Ok (Some p)) =
    (later : List ℕ) → MayCome ended later → old (pulled ++ later) ≡ raw_of p ∷ new later
AnswersPieces old pulled new ended (Ok None) = (ended ≡ true) × (old pulled ≡ []) × (new [] ≡ [])
AnswersPieces old pulled new ended (Err (LineTooLong number)) =
    (later : List ℕ) → MayCome ended later → BeginsTooLong number (old (pulled ++ later))
AnswersPieces old pulled new ended (Err (ReadFault number)) = Unit {0}
AnswersPieces old pulled new ended (Err Memory) = Unit {0}
AnswersPieces old pulled new ended (Err TooManyLines) = ⊥

-- What a call answers that has answered no fault so far. The source gave `pulled` meanwhile.
pub record IsNextPieceFrom (old : PiecesLeft) (given_before : Given) (failed_before : Bool)
    (answer : Result (Option TextPiece) LineFault) (new : PiecesLeft) (given_after : Given)
    (failed_after : Bool) : Type 0 where
  pub pulled : List ℕ
  pub given : given_after.bytes ≡ given_before.bytes ++ pulled
  pub end : StaysEnded given_before.ended pulled given_after.ended
  pub answers : AnswersPieces old.pieces pulled new.pieces given_after.ended answer
  pub failed : FailsOnly failed_before answer failed_after
  pub sound : OnOk answer (new.fault ≡ None)
  pub fewer : IfOk answer (λ next. OnSome next (new.most < old.most))

-- memory is the fault past the last number alone
abbrev pub IsPastNumbers : {X : Type 0} → Result X LineFault → ℕ → Type 0
IsPastNumbers (Err Memory) number = number ≡ 2 ^ 64 - 1
IsPastNumbers answer number = Unit {0}

-- What a reader answers that has this fault: it stays, and nothing is pulled. Without one it answers the next piece.
abbrev pub AnswersRaw : Option LineFault → LinesHeld → Given → Bool
    → Result (Option TextPiece) LineFault → LinesHeld → Given → Bool → Type 0
AnswersRaw (Some fault) old given_before failed_before answer new given_after failed_after =
    (answer ≡ Err fault) × (new ≡ old) × (given_after ≡ given_before) × (failed_after ≡ failed_before)
AnswersRaw None old given_before failed_before answer new given_after failed_after =
    IsNextPieceFrom (pieces_left old) given_before failed_before answer (pieces_left new) given_after failed_after
    × (new.fault ≡ fault_answered answer) × IsAtLine answer new.number × IsPastNumbers answer new.number

-- what a call of a reader of pieces answers
abbrev pub IsRawRead : LinesHeld → Given → Bool
    → Result (Option TextPiece) LineFault → LinesHeld → Given → Bool → Type 0
IsRawRead old given_before failed_before answer new given_after failed_after =
    AnswersRaw old.fault old given_before failed_before answer new given_after failed_after

-- what a call of any reader of pieces answers, where the reader has answered no fault so far
abbrev pub IsNextPieceOf : PiecesLeft → Given → Bool
    → Result (Option TextPiece) LineFault → PiecesLeft → Given → Bool → Type 0
IsNextPieceOf old given_before failed_before answer new given_after failed_after =
    old.fault ≡ None → IsNextPieceFrom old given_before failed_before answer new given_after failed_after
