-- The grouping of a text.
use Rattle.std.specs.Prelude.{ℕ, List, Result}
use Rattle.std.specs.Result.{result_map_both}
use Rattle.county_codes.specs.declared.group.Group.{Group}
use Rattle.grouping_laws.specs.Grouping.{Grouping}
use Rattle.grouping_reader.specs.declared.fault.CodeLineKind.{CodeLineKind}
use Rattle.grouping_reader.specs.declared.fault.CodeLineFault.{CodeLineFault}
use Rattle.grouping_reader.specs.Faults.{value_list}
use Rattle.grouping_reader.specs.SeatLine.{seat_line}

-- seats and codes, as a group
abbrev pub group_of : ℕ × List ℕ → Group
group_of r = record { seats = r.0; codes = r.1 }

-- the group on a line: its seats, from 0 to 65,535, and its codes
abbrev pub group_on : List ℕ → Result Group CodeLineKind
group_on line = result_map_both group_of (λ kind. kind) (seat_line 0 65535 line)

-- the groups of all lines of a text that aren't blank, or its first fault
abbrev pub grouping_list : List ℕ → Result Grouping CodeLineFault
grouping_list text = value_list group_on text
