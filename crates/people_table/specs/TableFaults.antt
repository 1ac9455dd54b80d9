-- The faults of a table of counties with their people.
use Rattle.std.specs.Prelude.{◌≡◌, ℕ}
use Rattle.field_lines.specs.Fault.{line_of_fault}
use Rattle.field_lines.specs.declared.fault.LineFault.{LineFault}
use Rattle.people_table.specs.declared.fault.PeopleKind.{PeopleKind}
use Rattle.people_table.specs.declared.fault.PeopleKind.TheVariants.{Lower, Memory}
use Rattle.people_table.specs.declared.fault.PeopleFault.{PeopleFault}

-- what is wrong with the line of a number
abbrev pub people_line_fault : PeopleKind → ℕ → PeopleFault
people_line_fault kind number = record { kind = kind; line = number }

-- the fault of a table whose cut ends in a fault
abbrev pub people_cut_fault : LineFault → PeopleFault
people_cut_fault fault = record { kind = Lower fault; line = line_of_fault fault }

-- memory was refused
abbrev pub IsPeopleMemory : PeopleFault → Type 0
IsPeopleMemory fault = fault.kind ≡ Memory
