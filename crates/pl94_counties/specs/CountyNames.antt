-- The counties of a state with their names.
use Rattle.std.specs.Prelude.{ℕ, ◌≡◌, ◌==◌, ◌&&◌, not, nat_lt, Bool, false, List, [], Option, Some, None, Result, Ok}
use Rattle.std.specs.Prelude.{Err, is_some, unwrap_or, find, map, if◌then◌else◌}
use Rattle.std.specs.List.{filter_map}
use Rattle.std.specs.Option.{option_map, option_map_or, option_and_then}
use Rattle.std.specs.Str.{is_utf8}
use Rattle.std.specs.String.{string_bytes}
use Rattle.county_codes.specs.declared.county.County.{County}
use Rattle.field_lines.specs.Cut.{Line, cut}
use Rattle.pl94_counties.specs.declared.fault.File.{File}
use Rattle.pl94_counties.specs.declared.fault.File.TheVariants.{Geo, Segment1}
use Rattle.pl94_counties.specs.declared.fault.Pl94Fault.{Pl94Fault}
use Rattle.pl94_counties.specs.declared.fault.Pl94Kind.TheVariants.{Memory}
use Rattle.pl94_counties.specs.declared.geo.Area.TheVariants as areas
use Rattle.pl94_counties.specs.declared.county_names.NamedCounty.{NamedCounty}
use Rattle.pl94_counties.specs.declared.county_names.NamedFault.{NamedFault}
use Rattle.pl94_counties.specs.declared.county_names.NamedFault.TheVariants.{Files, BadName}
pub use Rattle.pl94_counties.specs.CodeNames.{CodeName, code_name}
use Rattle.pl94_counties.specs.Counties.{county_list}
use Rattle.pl94_counties.specs.Fields.{GeoFields, field, geo_fields}
use Rattle.pl94_counties.specs.Geo.{is_line_of, county_code}

-- a county and its name
pub record CountyName : Type 0 where
  pub county : County
  pub name : List ℕ

-- a named county by the bytes of its name
abbrev pub county_name : NamedCounty → CountyName
county_name k = record { county = k.county; name = string_bytes k.name }

-- the NAME of a line of geo, field 88; it is empty if the line has fewer fields
abbrev pub name_on : List ℕ → List ℕ
name_on line = unwrap_or (field 88 line) []

-- the code of the county that the fields of a line are for, if they are for a county of the state
abbrev pub code_in : ℕ → GeoFields → Option ℕ
code_in state g = if is_line_of areas.County state g then county_code state g.county else None

-- the code of the county that a line is for, if it is for a county of the state
abbrev pub code_on : ℕ → List ℕ → Option ℕ
code_on state line = option_and_then (code_in state) (geo_fields line)

-- whether a line is for a county and its NAME isn't UTF-8
abbrev pub has_bad_name : ℕ → List ℕ → Bool
has_bad_name state line = is_some (code_on state line) && not (is_utf8 (name_on line))

-- the number of the first line that is for a county and whose NAME isn't UTF-8
abbrev pub bad_name : ℕ → List Line → Option ℕ
bad_name state lines = option_map (λ l. l.number) (find (λ l. has_bad_name state l.bytes) lines)

-- the code and the NAME of a line that is for a county
abbrev pub named_on : ℕ → List ℕ → Option CodeName
named_on state line = option_map (λ code. code_name code (name_on line)) (code_on state line)

-- the codes and the names of the lines that are for counties
abbrev pub names_on : ℕ → List Line → List CodeName
names_on state lines = filter_map (λ l. named_on state l.bytes) lines

-- the name of a code; it is empty if none is named
abbrev pub name_of : List CodeName → ℕ → List ℕ
name_of names code = option_map_or (λ n. n.name) (find (λ n. n.code == code) names) []

-- counties with their names
abbrev pub with_names : List CodeName → List County → List CountyName
with_names names counties = map (λ k. record { county = k; name = name_of names k.code }) counties

-- whether a fault is one of geo at a line after this one
abbrev pub is_after : File → ℕ → ℕ → Bool
is_after Geo line number = nat_lt number line
is_after Segment1 line number = false

-- the fault of the files, unless a bad name stands on a line of geo before it
abbrev pub first_named_fault : Pl94Fault → Option ℕ → NamedFault
first_named_fault fault None = Files fault
first_named_fault fault (Some number) = if is_after fault.file fault.line number then BadName number else Files fault

-- what is found, unless a name is bad
abbrev pub unless_bad : {X : Type 0} → Option ℕ → X → Result X NamedFault
unless_bad None found = Ok found
unless_bad (Some number) found = Err (BadName number)

-- the counties with their names, or the first fault, by the lines of geo
abbrev pub named_by_lines : List Line → ℕ → Result (List County) Pl94Fault → Result (List CountyName) NamedFault
named_by_lines lines state (Ok counties) =
    unless_bad (bad_name state lines) (with_names (names_on state lines) counties)
named_by_lines lines state (Err fault) = Err (first_named_fault fault (bad_name state lines))

-- the counties of a state by code with their names, or the first fault
abbrev pub named_list : List ℕ → List ℕ → ℕ → Result (List CountyName) NamedFault
named_list geo segment1 state = named_by_lines (cut geo).lines state (county_list geo segment1 state)

-- memory was refused
abbrev pub IsNoMemory : NamedFault → Type 0
IsNoMemory (Files fault) = fault.kind ≡ Memory
IsNoMemory (BadName number) = ⊥
