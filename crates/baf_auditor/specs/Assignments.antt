-- The assignments of a text.
use Rattle.std.specs.Prelude.{◌≡◌, ℕ, ◌==◌, ◌+◌, nat_le, Bool, List, [], ◌∷◌, ◌++◌, length, Option, Some, None, Result}
use Rattle.std.specs.Prelude.{Ok, Err, is_none, if◌then◌else◌}
use Rattle.std.specs.List.{list_any, filter_map}
use Rattle.std.specs.Option.{ok_or, option_map, option_and_then}
use Rattle.std.specs.Result.{result_ok}
use Rattle.field_lines.specs.Chain.{◌>>=◌}
use Rattle.field_lines.specs.Cut.{Line, cut}
use Rattle.field_lines.specs.Fault.{line_of_fault}
use Rattle.field_lines.specs.Fields.{field_of}
use Rattle.field_lines.specs.Number.{digits_of}
use Rattle.field_lines.specs.Values.{first_fault_after, unless_fault}
use Rattle.field_lines.specs.declared.fault.LineFault.{LineFault}
use Rattle.baf_auditor.specs.declared.assignments.Assignment.{Assignment}
use Rattle.baf_auditor.specs.declared.fault.AssignmentKind.{AssignmentKind}
use Rattle.baf_auditor.specs.declared.fault.AssignmentKind.TheVariants.{TooFewFields, BadCode, BadLabel, TooMany}
use Rattle.baf_auditor.specs.declared.fault.AssignmentKind.TheVariants.{Lower, Memory}
use Rattle.baf_auditor.specs.declared.fault.AssignmentFault.{AssignmentFault}
use Rattle.baf_auditor.specs.Labels.{label_of}

-- what is wrong with the line of a number
abbrev pub assignment_line_fault : AssignmentKind → ℕ → AssignmentFault
assignment_line_fault kind number = record { kind = kind; line = number }

-- the fault of a text whose cut ends in a fault
abbrev pub assignment_cut_fault : LineFault → AssignmentFault
assignment_cut_fault fault = record { kind = Lower fault; line = line_of_fault fault }

-- memory was refused
abbrev pub IsAssignmentMemory : AssignmentFault → Type 0
IsAssignmentMemory fault = fault.kind ≡ Memory

-- whether a line has a pipe
abbrev pub has_pipe : List ℕ → Bool
has_pipe line = list_any (λ b. b == 124) line

-- what stands between two fields, by the first line: a pipe where it has one, else a comma
abbrev pub delimiter_of : List ℕ → ℕ
delimiter_of line = if has_pipe line then 124 else 44

-- whether the first field of a line isn't fifteen digits
abbrev pub is_assignment_header : ℕ → List ℕ → Bool
is_assignment_header delimiter line = is_none (option_and_then (digits_of 15) (field_of delimiter 1 line))

-- the block and the label on a line
unfoldable pub assignment_on : ℕ → List ℕ → Result Assignment AssignmentKind
assignment_on delimiter line = do
  block_field ← ok_or (field_of delimiter 1 line) TooFewFields
  label_field ← ok_or (field_of delimiter 2 line) TooFewFields
  block ← ok_or (digits_of 15 block_field) BadCode
  label ← ok_or (label_of label_field) BadLabel
  Ok (record { block = block; label = label })

-- how many assignments there may be
abbrev pub most_assignments : ℕ
most_assignments = 4000000

-- what is wrong with the line after a number of assignments
abbrev pub row_fault : ℕ → Result Assignment AssignmentKind → Option AssignmentKind
row_fault count (Err kind) = Some kind
row_fault count (Ok assignment) = if nat_le most_assignments count then Some TooMany else None

-- what is wrong with the first line at fault after a number of assignments, and its number
abbrev pub first_assignment_fault : ℕ → ℕ → List Line → Option (AssignmentKind × ℕ)
first_assignment_fault delimiter count lines =
    first_fault_after (λ count l. row_fault count (assignment_on delimiter l.bytes)) (λ count l. count + 1) count lines

-- the assignments before and those of further lines, unless a line is at fault, or the cut after all its lines
abbrev pub rows_after : ℕ → List Assignment → List Line → Option LineFault → Result (List Assignment) AssignmentFault
rows_after delimiter before lines fault =
    unless_fault
    (option_map (λ f. assignment_line_fault f.0 f.1) (first_assignment_fault delimiter (length before) lines))
    (option_map assignment_cut_fault fault)
    (before ++ filter_map (λ l. result_ok (assignment_on delimiter l.bytes)) lines)

-- the assignments of lines, of which the first may be a header
abbrev pub assignments_of : List Line → Option LineFault → Result (List Assignment) AssignmentFault
assignments_of [] fault = rows_after 44 [] [] fault
assignments_of (l ∷ ls) fault =
    rows_after (delimiter_of l.bytes) [] (if is_assignment_header (delimiter_of l.bytes) l.bytes then ls else l
    ∷ ls) fault

-- the assignments of a whole text in the order of its lines, or its first fault
abbrev pub assignment_list : List ℕ → Result (List Assignment) AssignmentFault
assignment_list text = assignments_of (cut text).lines (cut text).fault

-- the assignments before with that of a further line, unless it is at fault
abbrev pub with_row : List Assignment → Result Assignment AssignmentKind → Result (List Assignment) AssignmentKind
with_row before (Err kind) = Err kind
with_row before (Ok assignment) =
    if nat_le most_assignments (length before) then Err TooMany else Ok (before ++ assignment ∷ [])

-- a further line was added to the assignments, or is at fault after them, unless memory was refused
abbrev pub AddsUnlessMemory : List Assignment → Result Assignment AssignmentKind → Result (Unit {0}) AssignmentKind
    → List Assignment → Type 0
AddsUnlessMemory old given (Ok done) new = with_row old given ≡ Ok new
AddsUnlessMemory old given (Err kind) new = (kind ≡ Memory → ⊥) → with_row old given ≡ Err kind
