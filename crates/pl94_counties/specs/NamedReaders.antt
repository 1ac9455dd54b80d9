-- What one reading of the lines of geo finds: the people of the counties and their names.
use Rattle.std.specs.Prelude.{ℕ, ◌+◌, ◌≡◌, ◌≤◌, ◌&&◌, Bool, false, List, [], ◌∷◌, ◌++◌, Option, Some, None, Result, Ok}
use Rattle.std.specs.Prelude.{Err, option_to_list, if◌then◌else◌}
use Rattle.field_lines.specs.Fault.{line_of_fault}
use Rattle.field_lines.specs.Cut.{Cut, Line, cut}
use Rattle.field_lines.specs.declared.fault.LineFault.{LineFault}
use Rattle.pl94_counties.specs.declared.fault.File.{File}
use Rattle.pl94_counties.specs.declared.fault.File.TheVariants.{Geo}
use Rattle.pl94_counties.specs.declared.fault.Pl94Fault.{Pl94Fault}
use Rattle.pl94_counties.specs.declared.fault.Pl94Kind.{Pl94Kind}
use Rattle.pl94_counties.specs.declared.geo.Area.TheVariants as areas
use Rattle.pl94_counties.specs.declared.county_names.NamedFault.{NamedFault}
use Rattle.pl94_counties.specs.declared.county_names.NamedFault.TheVariants.{Files, BadName}
use Rattle.pl94_counties.specs.declared.named_counties.FoundCounties.{FoundCounties}
use Rattle.pl94_counties.specs.PeopleByCode.{with_given, pl94_fault_on}
use Rattle.pl94_counties.specs.Geo.{rule_of, area_on}
use Rattle.pl94_counties.specs.Areas.{some_areas, area_list_in}
use Rattle.pl94_counties.specs.Readers.{is_pl94_read_fault, same_file, IsPl94Refused}
use Rattle.pl94_counties.specs.CountyNames.{CodeName, has_bad_name, bad_name, named_on, names_on, first_named_fault}
use Rattle.pl94_counties.specs.CountyNames.{unless_bad, IsNoMemory}

-- the people of counties by code, and the codes and the names of their lines
pub record NamedEntries : Type 0 where
  pub entries : List (ℕ × ℕ)
  pub names : List CodeName

-- what was found, by its entries
abbrev pub entries_shown : FoundCounties → NamedEntries
entries_shown f = record { entries = f.people.entries; names = f.names.items }

-- Lines have ascending numbers from one on, and the fault of their text stands after them.
abbrev pub AreInOrder : ℕ → List Line → Option LineFault → Type 0
AreInOrder from [] None = Unit {0}
AreInOrder from [] (Some fault) = from ≤ line_of_fault fault
AreInOrder from (l ∷ ls) fault = (from ≤ l.number) × AreInOrder (l.number + 1) ls fault

-- whatever comes later, the lines are in order
abbrev pub StandInOrder : (List ℕ → Cut) → Type 0
StandInOrder cut = (later : List ℕ) → AreInOrder 1 (cut later).lines (cut later).fault

-- the entries after a further line with the name on it, unless the line is at fault; a bad name comes after the others
abbrev pub with_name : ℕ → Line → List CodeName → Result (List (ℕ × ℕ)) Pl94Kind → Result NamedEntries NamedFault
with_name state line names (Ok entries) =
    if has_bad_name state line.bytes then Err (BadName line.number)
    else Ok (record { entries = entries; names = names ++ option_to_list (named_on state line.bytes) })
with_name state line names (Err kind) = Err (Files (pl94_fault_on Geo (kind, line.number)))

-- what was found, with what a further line of geo gives, unless it is at fault after them
abbrev pub with_named_line : ℕ → List (ℕ × ℕ) → NamedEntries → Line → Result NamedEntries NamedFault
with_named_line state records found line = with_name state line found.names
    (with_given (rule_of areas.County) found.entries (area_on areas.County state records line.bytes))

-- a further line was added to what was found, or is at fault after it, unless memory was refused
abbrev pub AddsNamed : ℕ → List (ℕ × ℕ) → NamedEntries → Line → Result (Unit {0}) NamedFault → NamedEntries → Type 0
AddsNamed state records old line (Ok done) new = with_named_line state records old line ≡ Ok new
AddsNamed state records old line (Err fault) new =
    (IsNoMemory fault → ⊥) → with_named_line state records old line ≡ Err fault

-- the entries with the names, or the first fault of the files and of a name
abbrev pub entries_unless_bad : Option ℕ → List CodeName → Result (List (ℕ × ℕ)) Pl94Fault
    → Result NamedEntries NamedFault
entries_unless_bad bad names (Ok entries) = unless_bad bad (record { entries = entries; names = names })
entries_unless_bad bad names (Err fault) = Err (first_named_fault fault bad)

-- by the lines of geo
abbrev pub entries_by_lines : List Line → ℕ → Result (List (ℕ × ℕ)) Pl94Fault → Result NamedEntries NamedFault
entries_by_lines lines state listed = entries_unless_bad (bad_name state lines) (names_on state lines) listed

-- the people of the counties of a state by code and the names on their lines, or the first fault
abbrev pub named_entries_in : Cut → Cut → ℕ → Result NamedEntries NamedFault
named_entries_in geo segment1 state = entries_by_lines geo.lines state (area_list_in areas.County geo segment1 state)

-- the same of whole texts
abbrev pub named_entries : List ℕ → List ℕ → ℕ → Result NamedEntries NamedFault
named_entries geo segment1 state = named_entries_in (cut geo) (cut segment1) state

-- what was found; no county is a fault
abbrev pub some_named : NamedEntries → Result NamedEntries NamedFault
some_named found = entries_unless_bad None found.names (some_areas areas.County found.entries)

-- memory was refused, or a file could not be read
abbrev pub IsNamedRefused : NamedFault → Type 0
IsNamedRefused (Files fault) = IsPl94Refused fault
IsNamedRefused (BadName number) = ⊥

-- whether a fault is that this file could not be read
abbrev pub is_read_failure : File → NamedFault → Bool
is_read_failure file (Files fault) = is_pl94_read_fault fault.kind && same_file file fault.file
is_read_failure file (BadName number) = false

-- a fault is not that a file could not be read
abbrev pub IsNoReadFailure : NamedFault → Type 0
IsNoReadFailure fault = (file : File) → is_read_failure file fault ≡ false

-- whether an answer is that this file could not be read
abbrev pub named_read_failed : {X : Type 0} → File → Result X NamedFault → Bool
named_read_failed file (Ok x) = false
named_read_failed file (Err fault) = is_read_failure file fault
