-- Lines that are read from a source.
use Rattle.std.specs.Prelude.{◌≡◌, ℕ, ◌+◌, ◌-◌, ◌<◌, Bool, true, false, List, [], ◌++◌, length, Option, Some, None}
use Rattle.std.specs.Prelude.{Result, Ok, Err, OnOk, OnSome, IfOk}
use Rattle.std.specs.Borrow.{Bor}
use Rattle.field_lines.specs.RawPieces.{raw_lines_from}
use Rattle.field_lines.specs.Fault.{most_lines}
use Rattle.field_lines.specs.Cut.{Cut, Line, cut_of, in_front, line_of}
use Rattle.field_lines.specs.Source.{Given}
use Rattle.field_lines.specs.HeldBytes.{MayCome, StaysEnded}
use Rattle.field_lines.specs.declared.fault.LineFault.{LineFault}
use Rattle.field_lines.specs.declared.fault.LineFault.TheVariants.{ReadFault, Memory}

-- what a reader of lines has: the bytes that it holds, the number of the next line, and its fault
pub record LinesHeld : Type 0 where
  pub bytes : List ℕ
  pub number : ℕ
  pub fault : Option LineFault

-- nothing was read so far
abbrev pub nothing_read : LinesHeld
nothing_read = record { bytes = []; number = 1; fault = None }

-- what is left of lines that are read: their cut, by the bytes that come later; the fault that was answered; and how
-- many lines there are at most
pub record LinesLeft : Type 0 where
  pub cut : List ℕ → Cut
  pub fault : Option LineFault
  pub most : ℕ

-- what a reader of lines has left
abbrev pub lines_held : LinesHeld → LinesLeft
lines_held h = record {
  cut = λ later. cut_of (raw_lines_from h.number (h.bytes ++ later));
  fault = h.fault;
  most = most_lines + 1 - h.number;
}

-- what lines of a text in memory have left: no byte comes later
abbrev pub lines_of_cut : Cut → LinesLeft
lines_of_cut c = record { cut = λ later. c; fault = None; most = length c.lines }

-- no line, and perhaps a fault
abbrev pub no_line : Option LineFault → Cut
no_line fault = record { lines = []; fault = fault }

-- What is answered where `old` was left, and these bytes were pulled: whatever comes later, the first of the lines, or
-- the fault of a cut that has none; at the end that there is no line. A read that failed says nothing of the lines.
abbrev pub AnswersCut : (List ℕ → Cut) → List ℕ → (List ℕ → Cut) → Bool → Result (Option Line) LineFault → Type 0
AnswersCut old pulled new ended (Ok (Some line)) =
    (later : List ℕ) → MayCome ended later → old (pulled ++ later) ≡ in_front line (new later)
AnswersCut old pulled new ended (Ok None) = (ended ≡ true) × (old pulled ≡ no_line None) × (new [] ≡ no_line None)
AnswersCut old pulled new ended (Err (ReadFault number)) = Unit {0}
AnswersCut old pulled new ended (Err Memory) = ⊥
AnswersCut old pulled new ended (Err fault) =
    (later : List ℕ) → MayCome ended later → old (pulled ++ later) ≡ no_line (Some fault)

-- a source fails exactly where a read fault is answered
abbrev pub FailsOnly : {X : Type 0} → Bool → Result X LineFault → Bool → Type 0
FailsOnly before (Err (ReadFault number)) after = after ≡ true
FailsOnly before answer after = before ≡ false → after ≡ false

-- an answer, by its line
abbrev pub line_answered : Result (Option (ℕ × Bor (List ℕ))) LineFault → Result (Option Line) LineFault
line_answered (Ok (Some r)) = Ok (Some (line_of r))
line_answered (Ok None) = Ok None
line_answered (Err fault) = Err fault

-- What a call answers that has answered no fault so far. The source gave `pulled` meanwhile.
pub record IsNextFrom (old : LinesLeft) (given_before : Given) (failed_before : Bool)
    (answer : Result (Option Line) LineFault) (new : LinesLeft) (given_after : Given)
    (failed_after : Bool) : Type 0 where
  pub pulled : List ℕ
  pub given : given_after.bytes ≡ given_before.bytes ++ pulled
  pub end : StaysEnded given_before.ended pulled given_after.ended
  pub answers : AnswersCut old.cut pulled new.cut given_after.ended answer
  pub failed : FailsOnly failed_before answer failed_after
  pub sound : OnOk answer (new.fault ≡ None)
  pub fewer : IfOk answer (λ next. OnSome next (new.most < old.most))

-- the fault that a reader has after an answer
abbrev pub fault_answered : {X : Type 0} → Result X LineFault → Option LineFault
fault_answered (Ok x) = None
fault_answered (Err fault) = Some fault

-- a read fault has the number of the line that was being read
abbrev pub IsAtLine : {X : Type 0} → Result X LineFault → ℕ → Type 0
IsAtLine (Err (ReadFault number)) line = number ≡ line
IsAtLine answer line = Unit {0}

-- What a reader answers that has this fault: it stays, and nothing is pulled. Without one it answers the next line.
abbrev pub AnswersRead : Option LineFault → LinesHeld → Given → Bool → Result (Option (ℕ × Bor (List ℕ))) LineFault
    → LinesHeld → Given → Bool → Type 0
AnswersRead (Some fault) old given_before failed_before answer new given_after failed_after =
    (answer ≡ Err fault) × (new ≡ old) × (given_after ≡ given_before) × (failed_after ≡ failed_before)
AnswersRead None old given_before failed_before answer new given_after failed_after =
    IsNextFrom (lines_held old) given_before failed_before (line_answered answer)
    (lines_held new) given_after failed_after
    × (new.fault ≡ fault_answered answer) × IsAtLine answer new.number

-- what a call of a reader answers
abbrev pub IsNextRead : LinesHeld → Given → Bool → Result (Option (ℕ × Bor (List ℕ))) LineFault → LinesHeld → Given → Bool
    → Type 0
IsNextRead old given_before failed_before answer new given_after failed_after =
    AnswersRead old.fault old given_before failed_before answer new given_after failed_after

-- what a call of any reader of lines answers, where the reader has answered no fault so far
abbrev pub IsNextAnswer : LinesLeft → Given → Bool → Result (Option (ℕ × Bor (List ℕ))) LineFault → LinesLeft → Given
    → Bool → Type 0
IsNextAnswer old given_before failed_before answer new given_after failed_after =
    old.fault ≡ None → IsNextFrom old given_before failed_before (line_answered answer) new given_after failed_after

-- What a reading of a text comes to: the source gave bytes meanwhile, and this holds of each text that begins with
-- them. If the source has ended, that is the one text of these bytes.
pub record ReadsText (cut : List ℕ → Cut) (given_before given_after : Given) (Holds : Cut → Type 0) : Type 0 where
  pub pulled : List ℕ
  pub given : given_after.bytes ≡ given_before.bytes ++ pulled
  pub holds : (later : List ℕ) → MayCome given_after.ended later → Holds (cut (pulled ++ later))
