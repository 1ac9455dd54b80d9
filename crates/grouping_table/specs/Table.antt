-- The table of the listed counties.
use Rattle.std.specs.Prelude.{ℕ, List, [], ◌∷◌, ◌++◌, Option, Some, None, map, flat_map, codes, decimal}
use Rattle.county_codes.specs.declared.county.County.{County}
use Rattle.county_codes.specs.declared.group.Group.{Group}
use Rattle.county_codes.specs.declared.withdrawn.Withdrawn.{Withdrawn}
use Rattle.county_codes.specs.Digits.{five_digits}
use Rattle.pl94_counties.specs.CountyNames.{CountyName}
use Rattle.grouping_table.specs.LabelledSets.{SetValue, labelled_sets, set_of_code}
use Rattle.grouping_table.specs.Quoting.{line_text}

-- the counties without their names
abbrev pub unnamed_counties : List CountyName → List County
unnamed_counties listed = map (λ k. k.county) listed

-- the label, the seats and the people of a county's set; the three fields are empty if no set has the county
abbrev pub set_fields : Option SetValue → List (List ℕ)
set_fields None = [] ∷ [] ∷ [] ∷ []
set_fields (Some s) = s.label ∷ decimal s.seats ∷ decimal s.people ∷ []

-- a county's code, its name, its people and the fields of its set
abbrev pub county_fields : List SetValue → CountyName → List (List ℕ)
county_fields sets k =
    five_digits k.county.code ∷ k.name ∷ decimal k.county.people ∷ set_fields (set_of_code sets k.county.code)

-- the names of the fields
abbrev pub header_line : List ℕ
header_line = codes "GEOID,NAME,POPULATION,GROUP,SEATS,GROUP_POPULATION\n"

-- the lines of counties
abbrev pub county_lines : List SetValue → List CountyName → List ℕ
county_lines sets listed = flat_map (λ k. line_text (county_fields sets k)) listed

-- the header, and a line for each listed county
abbrev pub table_text : List CountyName → List Withdrawn → List Group → List ℕ
table_text listed withdrawn groups =
    header_line ++ county_lines (labelled_sets (unnamed_counties listed) withdrawn groups) listed
