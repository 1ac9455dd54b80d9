-- The faults of a text.
use Rattle.std.specs.Prelude.{ℕ}
use Rattle.field_lines.specs.declared.fault.LineFault.{LineFault}
use Rattle.field_lines.specs.declared.fault.LineFault.TheVariants.{LineTooLong, TooManyLines, ReadFault, Memory}

-- how many lines a text may have
abbrev pub most_lines : ℕ
most_lines = 16777216

-- how many bytes a line may have, with its CR and its byte order mark
abbrev pub most_bytes : ℕ
most_bytes = 65536

-- the line of a fault: the first past the limit for too many lines, and 0 for out of memory
abbrev pub line_of_fault : LineFault → ℕ
line_of_fault (LineTooLong number) = number
line_of_fault TooManyLines = 16777217
line_of_fault (ReadFault number) = number
line_of_fault Memory = 0

-- a text has this fault, whoever reads it
abbrev pub IsOfText : LineFault → Type 0
IsOfText (LineTooLong number) = Unit {0}
IsOfText TooManyLines = Unit {0}
IsOfText (ReadFault number) = ⊥
IsOfText Memory = ⊥
