-- The withdrawn sets of a text.
use Rattle.std.specs.Prelude.{ℕ, List, Result}
use Rattle.std.specs.Result.{result_map_both}
use Rattle.county_codes.specs.declared.withdrawn.Withdrawn.{Withdrawn}
use Rattle.grouping_reader.specs.SeatLine.{seat_line}
use Rattle.grouping_reader.specs.declared.fault.CodeLineKind.{CodeLineKind}
use Rattle.grouping_reader.specs.declared.fault.CodeLineFault.{CodeLineFault}
use Rattle.grouping_reader.specs.Faults.{value_list}

-- seats and codes, as a withdrawn set
abbrev pub set_of : ℕ × List ℕ → Withdrawn
set_of r = record { seats = r.0; codes = r.1 }

-- the withdrawn set on a line: its seats, from 1 to 1,000, and its codes
abbrev pub set_on : List ℕ → Result Withdrawn CodeLineKind
set_on line = result_map_both set_of (λ kind. kind) (seat_line 1 1000 line)

-- the withdrawn sets of a whole text in their order, or its first fault
abbrev pub withdrawn_list : List ℕ → Result (List Withdrawn) CodeLineFault
withdrawn_list text = value_list set_on text
