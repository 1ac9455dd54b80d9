-- What is taken of the bytes that were pulled.
use Rattle.std.specs.Prelude.{◌≡◌, ℕ, ◌+◌, ◌≤◌, Bool, List, ◌∷◌, ◌++◌, slice_range, length, Option, Some, None, Result}
use Rattle.std.specs.Prelude.{Ok, Err}
use Rattle.field_lines.specs.RawPieces.{RawLine, raw_lines_from}
use Rattle.field_lines.specs.Cut.{Line, line_bytes}
use Rattle.field_lines.specs.HeldBytes.{Pulled, MayCome}
use Rattle.field_lines.specs.declared.fault.LineFault.{LineFault}
use Rattle.field_lines.specs.declared.taken_pieces.TakenPiece.{TakenPiece}
use Rattle.field_lines.specs.declared.taken_pieces.TakenLine.{TakenLine}

-- the place of what was taken
abbrev pub IsPlace : Pulled → ℕ → ℕ → Type 0
IsPlace held from to = (from ≤ to) × (to ≤ length held.taken)

-- the bytes of a piece that was taken
abbrev pub taken_bytes : Pulled → TakenPiece → List ℕ
taken_bytes held t = slice_range held.taken t.from t.to

-- the piece of a number that was taken
abbrev pub piece_at : ℕ → Pulled → TakenPiece → RawLine
piece_at number held t = record { number = number; bytes = taken_bytes held t; ended = t.ended }

-- Whatever comes later, the first of the pieces is the one that was taken, and the others are those of the bytes after.
abbrev pub TakesFirst : Bool → List ℕ → Pulled → TakenPiece → Type 0
TakesFirst ended before after t =
    (number : ℕ) (later : List ℕ) → MayCome ended later
    → raw_lines_from number (before ++ later)
    ≡ piece_at number after t ∷ raw_lines_from (number + 1) (after.bytes ++ later)

-- a line that was taken
abbrev pub line_at : Pulled → TakenLine → Line
line_at held t = record { number = t.number; bytes = line_bytes t.number (slice_range held.taken t.from t.to) }

-- an answer, by its line
abbrev pub line_taken : Pulled → Result (Option TakenLine) LineFault → Result (Option Line) LineFault
line_taken held (Ok (Some t)) = Ok (Some (line_at held t))
line_taken held (Ok None) = Ok None
line_taken held (Err fault) = Err fault
