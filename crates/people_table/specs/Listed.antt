-- The counties of a state by code, as a table lists them, or its first fault.
use Rattle.std.specs.Prelude.{ℕ, ◌==◌, ◌/◌, nat_lt, Bool, List, [], ◌∷◌, Option, Some, None, Result, Ok, Err, map}
use Rattle.std.specs.Prelude.{if◌then◌else◌}
use Rattle.std.specs.List.{list_any}
use Rattle.std.specs.Result.{result_map_both}
use Rattle.field_lines.specs.Chain.{◌>>=◌}
use Rattle.field_lines.specs.Cut.{Cut, Line, cut}
use Rattle.field_lines.specs.declared.fault.LineFault.{LineFault}
use Rattle.county_codes.specs.declared.county.County.{County}
use Rattle.pl94_counties.specs.CountyNames.{CountyName}
use Rattle.people_table.specs.declared.fault.PeopleKind.{PeopleKind}
use Rattle.people_table.specs.declared.fault.PeopleKind.TheVariants.{DoubleCounty, NoCounties}
use Rattle.people_table.specs.declared.fault.PeopleFault.{PeopleFault}
use Rattle.people_table.specs.TableFaults.{people_line_fault, people_cut_fault}
use Rattle.people_table.specs.CountyLines.{delimiter_of, without_header, county_on}

-- whether the first two of the five digits of a county's code are those of the state
abbrev pub is_of_state : ℕ → CountyName → Bool
is_of_state state k = k.county.code / 1000 == state

-- whether one of the counties has the code
abbrev pub has_county : ℕ → List CountyName → Bool
has_county code found = list_any (λ f. f.county.code == code) found

-- counties with a further one in front of the first whose code is greater
abbrev pub put_county : CountyName → List CountyName → List CountyName
put_county k [] = k ∷ []
put_county k (f ∷ found) =
    if nat_lt k.county.code f.county.code then k ∷ f ∷ found else f ∷ put_county k found

-- The counties of the state that were found, and the county of a further line, unless its code stood before. A county
-- of another state is passed over.
abbrev pub with_county : ℕ → List CountyName → CountyName → Result (List CountyName) PeopleKind
with_county state found k =
    if is_of_state state k
    then (if has_county k.county.code found then Err DoubleCounty else Ok (put_county k found))
    else Ok found

-- the counties of the state with what a further line gives, unless the line is at fault after those before
abbrev pub with_line : ℕ → ℕ → List CountyName → List ℕ → Result (List CountyName) PeopleKind
with_line delimiter state found line = county_on delimiter line >>= with_county state found

-- the counties after the last line, unless the table ends in a fault
abbrev pub at_end : List CountyName → Option LineFault → Result (List CountyName) PeopleFault
at_end found None = Ok found
at_end found (Some fault) = Err (people_cut_fault fault)

-- the counties after these lines in turn, or the first fault of a line, or else that of the table's end
abbrev pub counties_after : ℕ → ℕ → List CountyName → List Line → Option LineFault
    → Result (List CountyName) PeopleFault
counties_after delimiter state found [] fault = at_end found fault
counties_after delimiter state found (line ∷ lines) fault =
    elim (with_line delimiter state found line.bytes) as (λ _. Result (List CountyName) PeopleFault) [
      | Ok more ↦ counties_after delimiter state more lines fault
      | Err kind ↦ Err (people_line_fault kind line.number)
    ]

-- the counties; none is a fault
abbrev pub some_counties : List CountyName → Result (List CountyName) PeopleFault
some_counties [] = Err (people_line_fault NoCounties 0)
some_counties (k ∷ found) = Ok (k ∷ found)

-- the counties of a state by the lines of a table, which have this delimiter, or the first fault
abbrev pub counties_by_lines : ℕ → ℕ → List Line → Option LineFault → Result (List CountyName) PeopleFault
counties_by_lines delimiter state lines fault =
    counties_after delimiter state [] (without_header delimiter lines) fault >>= some_counties

-- the counties of a state with their names by the cut of a table, or the first fault
abbrev pub named_people_in : Cut → ℕ → Result (List CountyName) PeopleFault
named_people_in c state = counties_by_lines (delimiter_of c.lines) state c.lines c.fault

-- the counties of a state by code with their people and their names, or the first fault of the table
abbrev pub named_people_list : List ℕ → ℕ → Result (List CountyName) PeopleFault
named_people_list table state = named_people_in (cut table) state

-- the counties of a state by code with their people, or the first fault of the table
abbrev pub people_list : List ℕ → ℕ → Result (List County) PeopleFault
people_list table state =
    result_map_both (λ named. map (λ k. k.county) named) (λ fault. fault) (named_people_list table state)
