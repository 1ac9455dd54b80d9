-- The faults of a text whose lines have county codes.
use Rattle.std.specs.Prelude.{◌≡◌, ℕ, List, Result}
use Rattle.field_lines.specs.Fault.{line_of_fault}
use Rattle.field_lines.specs.Cut.{cut}
use Rattle.field_lines.specs.Values.{values_of}
use Rattle.field_lines.specs.declared.fault.LineFault.{LineFault}
use Rattle.grouping_reader.specs.declared.fault.CodeLineKind.{CodeLineKind}
use Rattle.grouping_reader.specs.declared.fault.CodeLineKind.TheVariants.{Lower, Memory}
use Rattle.grouping_reader.specs.declared.fault.CodeLineFault.{CodeLineFault}

-- what is wrong with the line of a number
abbrev pub code_line_fault : CodeLineKind → ℕ → CodeLineFault
code_line_fault kind number = record { kind = kind; line = number }

-- the fault of a text whose cut ends in a fault
abbrev pub code_line_cut_fault : LineFault → CodeLineFault
code_line_cut_fault fault = record { kind = Lower fault; line = line_of_fault fault }

-- memory was refused
abbrev pub IsCodeLineMemory : CodeLineFault → Type 0
IsCodeLineMemory fault = fault.kind ≡ Memory

-- the values of all lines of a text that aren't blank, or its first fault
abbrev pub value_list : {X : Type 0} → (List ℕ → Result X CodeLineKind) → List ℕ → Result (List X) CodeLineFault
value_list read text = values_of read code_line_fault code_line_cut_fault (cut text).lines (cut text).fault
