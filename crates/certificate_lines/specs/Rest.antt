-- What is left of a text, and how its lines are taken.
use Rattle.std.specs.Borrow.{Bor}
use Rattle.std.specs.Prelude.{◌≡◌, ℕ, ◌+◌, ◌<◌, ◌⊎◌, length, Bool, List, [], ◌∷◌, ◌++◌, Option, Some, None, Result, Ok}
use Rattle.std.specs.Prelude.{Err}
use Rattle.field_lines.specs.RawPieces.{RawLine, raw_lines_from, bytes_of}
use Rattle.certificate_lines.specs.declared.fault.TextKind.{TextKind}
use Rattle.certificate_lines.specs.declared.fault.TextKind.TheVariants.{CutShort, ReadFault, Memory}
use Rattle.certificate_lines.specs.declared.fault.TextFault.{TextFault}

-- the text that is left, and the number of its first line
pub record Rest : Type 0 where
  pub number : ℕ
  pub text : List ℕ

-- the lines of the text that is left
abbrev pub lines_of : Rest → List RawLine
lines_of rest = raw_lines_from rest.number rest.text

-- a fault on a line
abbrev pub text_fault_at : TextKind → ℕ → TextFault
text_fault_at kind number = record { kind = kind; line = number }

-- memory was refused
abbrev pub IsTextMemory : TextFault → Type 0
IsTextMemory fault = fault.kind ≡ Memory

-- the text could not be read: memory was refused, or the source failed
abbrev pub IsUnread : TextFault → Type 0
IsUnread fault = (fault.kind ≡ Memory) ⊎ (fault.kind ≡ ReadFault)

-- the line of old was taken, on which `read` finds x
pub record TakesTextLine {X : Type 0} (read : RawLine → Result X TextKind) (x : X) (old new : Rest) : Type 0 where
  pub piece : RawLine
  pub lines : lines_of old ≡ piece ∷ lines_of new
  pub value : read piece ≡ Ok x
  pub number : new.number ≡ old.number + 1
  pub text : old.text ≡ bytes_of piece ++ new.text
  pub shorter : length new.text < length old.text

-- `read` finds a fault on the next line, or there is none
abbrev pub FaultOf : {X : Type 0} → (RawLine → Result X TextKind) → ℕ → List RawLine → TextFault → Type 0
FaultOf read number [] fault = fault ≡ text_fault_at CutShort number
FaultOf read number (piece ∷ pieces) fault = (read piece ≡ Err fault.kind) × (fault.line ≡ number)

-- A call read the next line, seen by `view`, unless memory was refused.
abbrev pub ReadsLine : {X Y : Type 0} → (Y → X) → (RawLine → Result X TextKind) → Rest → Result Y TextFault → Rest
    → Type 0
ReadsLine view read old (Ok y) new = TakesTextLine read (view y) old new
ReadsLine view read old (Err fault) new = (IsTextMemory fault → ⊥) → FaultOf read old.number (lines_of old) fault

-- the next piece was taken; where none is left, none stays
abbrev pub TakesTextPiece : Rest → Option (Bor (List ℕ) × Bool) → Rest → Type 0
TakesTextPiece old None new = (lines_of old ≡ []) × (new ≡ old)
TakesTextPiece old (Some r) new =
    (lines_of old ≡ record { number = old.number; bytes = r.0.now; ended = r.1 } ∷ lines_of new)
    × (new.number ≡ old.number + 1)
    × (old.text ≡ bytes_of (record { number = old.number; bytes = r.0.now; ended = r.1 }) ++ new.text)
    × (length new.text < length old.text)
