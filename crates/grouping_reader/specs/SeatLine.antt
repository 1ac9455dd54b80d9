-- The seats and the codes of a line.
use Rattle.std.specs.Prelude.{ℕ, List, [], ◌∷◌, drop, Result, Ok}
use Rattle.std.specs.Option.{ok_or}
use Rattle.field_lines.specs.Chain.{◌>>=◌}
use Rattle.field_lines.specs.Fields.{fields_of, field_of}
use Rattle.field_lines.specs.Number.{number_in, digits_of}
use Rattle.grouping_reader.specs.declared.fault.CodeLineKind.{CodeLineKind}
use Rattle.grouping_reader.specs.declared.fault.CodeLineKind.TheVariants.{TooFewFields, BadSeats, BadCode}

-- the codes that fields spell, each by five digits
abbrev pub codes_on : List (List ℕ) → Result (List ℕ) CodeLineKind
codes_on [] = Ok []
codes_on (field ∷ fields) = do
  code ← ok_or (digits_of 5 field) BadCode
  codes ← codes_on fields
  Ok (code ∷ codes)

-- the seats and the codes of a line: field 1 is a number of seats from the least to the greatest, and each field from
-- the second on a code
unfoldable pub seat_line : ℕ → ℕ → List ℕ → Result (ℕ × List ℕ) CodeLineKind
seat_line least greatest line = do
  seats_field ← ok_or (field_of 124 1 line) TooFewFields
  second ← ok_or (field_of 124 2 line) TooFewFields
  seats ← ok_or (number_in least greatest seats_field) BadSeats
  codes ← codes_on (drop 1 (fields_of 124 line))
  Ok (seats, codes)
