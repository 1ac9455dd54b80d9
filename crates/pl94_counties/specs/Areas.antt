-- The areas of a state, counties or blocks.
use Rattle.std.specs.Prelude.{ℕ, List, [], ◌∷◌, Result, Ok, Err}
use Rattle.pl94_counties.specs.declared.fault.Pl94Kind.{Pl94Kind}
use Rattle.pl94_counties.specs.declared.fault.Pl94Kind.TheVariants.{NoCounties, NoBlocks}
use Rattle.pl94_counties.specs.declared.fault.File.TheVariants.{Geo}
use Rattle.pl94_counties.specs.declared.fault.Pl94Fault.{Pl94Fault}
use Rattle.pl94_counties.specs.declared.geo.Area.{Area}
use Rattle.pl94_counties.specs.declared.geo.Area.TheVariants.{County, Block}
use Rattle.field_lines.specs.Cut.{Cut, cut}
use Rattle.field_lines.specs.Chain.{◌>>=◌}
use Rattle.pl94_counties.specs.PeopleByCode.{people_of_numbers}
use Rattle.pl94_counties.specs.Segment.{record_list_in}
use Rattle.pl94_counties.specs.Geo.{rule_of, area_on}

-- the people of each area of the state by its code, or the first fault of a cut
abbrev pub found_list_in : Area → ℕ → List (ℕ × ℕ) → Cut → Result (List (ℕ × ℕ)) Pl94Fault
found_list_in area state records geo = people_of_numbers (area_on area state records) (rule_of area) Geo geo

-- the people of each area of the state by its code, or the first fault of geo
abbrev pub found_list : Area → ℕ → List (ℕ × ℕ) → List ℕ → Result (List (ℕ × ℕ)) Pl94Fault
found_list area state records geo = found_list_in area state records (cut geo)

-- what is wrong where no line is for a county, or none for a block
abbrev pub no_areas : Area → Pl94Kind
no_areas County = NoCounties
no_areas Block = NoBlocks

-- the entries; none is a fault
abbrev pub some_areas : Area → List (ℕ × ℕ) → Result (List (ℕ × ℕ)) Pl94Fault
some_areas area [] = Err (record { kind = no_areas area; file = Geo; line = 0 })
some_areas area (e ∷ es) = Ok (e ∷ es)

-- the people of each area of a state by its code, or the first fault: all of segment 1 before geo
abbrev pub area_list_in : Area → Cut → Cut → ℕ → Result (List (ℕ × ℕ)) Pl94Fault
area_list_in area geo segment1 state = do
  records ← record_list_in segment1
  found ← found_list_in area state records geo
  some_areas area found

-- the people of each area of a state by its code, or the first fault, from whole texts
abbrev pub area_list : Area → List ℕ → List ℕ → ℕ → Result (List (ℕ × ℕ)) Pl94Fault
area_list area geo segment1 state = area_list_in area (cut geo) (cut segment1) state
