-- The rows of the adjacency file.
use Rattle.std.specs.Prelude.{ℕ, Bool, List, [], ◌∷◌, Result, Ok, is_none, if◌then◌else◌}
use Rattle.std.specs.Option.{ok_or, option_and_then}
use Rattle.field_lines.specs.Chain.{◌>>=◌}
use Rattle.field_lines.specs.Cut.{Line, cut}
use Rattle.field_lines.specs.Fields.{field_of}
use Rattle.field_lines.specs.Number.{digits_of}
use Rattle.field_lines.specs.Values.{values_of}
use Rattle.grouping_reader.specs.declared.fault.CodeLineKind.{CodeLineKind}
use Rattle.grouping_reader.specs.declared.fault.CodeLineKind.TheVariants.{TooFewFields, BadCode}
use Rattle.grouping_reader.specs.declared.fault.CodeLineFault.{CodeLineFault}
use Rattle.grouping_reader.specs.Faults.{code_line_fault, code_line_cut_fault}

-- the county and its neighbour on a line: field 2 and field 4, each of five digits
unfoldable pub row_on : List ℕ → Result (ℕ × ℕ) CodeLineKind
row_on line = do
  county_field ← ok_or (field_of 124 2 line) TooFewFields
  neighbour_field ← ok_or (field_of 124 4 line) TooFewFields
  county ← ok_or (digits_of 5 county_field) BadCode
  neighbour ← ok_or (digits_of 5 neighbour_field) BadCode
  Ok (county, neighbour)

-- whether the second field of a line is missing or isn't five digits
abbrev pub is_header : List ℕ → Bool
is_header line = is_none (option_and_then (digits_of 5) (field_of 124 2 line))

-- the lines without the first, where that is a header
abbrev pub without_header : List Line → List Line
without_header [] = []
without_header (line ∷ lines) = if is_header line.bytes then lines else line ∷ lines

-- the rows of a whole text in their order, or its first fault
abbrev pub row_list : List ℕ → Result (List (ℕ × ℕ)) CodeLineFault
row_list text = values_of row_on code_line_fault code_line_cut_fault (without_header (cut text).lines) (cut text).fault
