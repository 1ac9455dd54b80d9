-- The long table of several groupings.
use Rattle.std.specs.Prelude.{ℕ, ◌+◌, List, [], ◌∷◌, ◌++◌, Option, Some, None, flat_map, codes, decimal}
use Rattle.county_codes.specs.declared.group.Group.{Group}
use Rattle.county_codes.specs.declared.withdrawn.Withdrawn.{Withdrawn}
use Rattle.county_codes.specs.Digits.{five_digits}
use Rattle.pl94_counties.specs.CountyNames.{CountyName}
use Rattle.grouping_table.specs.LabelledSets.{SetValue, labelled_sets, set_of_code}
use Rattle.grouping_table.specs.Quoting.{line_text}
use Rattle.grouping_table.specs.Table.{unnamed_counties}

-- the label and the seats of a county's set; the two fields are empty if no set has the county
abbrev pub label_and_seats : Option SetValue → List (List ℕ)
label_and_seats None = [] ∷ [] ∷ []
label_and_seats (Some s) = s.label ∷ decimal s.seats ∷ []

-- the number of a grouping, a county's code, its name, and the fields of its set in the grouping
abbrev pub grouping_fields : List SetValue → ℕ → CountyName → List (List ℕ)
grouping_fields sets number k =
    decimal number ∷ five_digits k.county.code ∷ k.name ∷ label_and_seats (set_of_code sets k.county.code)

-- the names of the fields
abbrev pub groupings_header : List ℕ
groupings_header = codes "GROUPING,GEOID,NAME,GROUP,SEATS\n"

-- the lines of counties in the grouping of a number
abbrev pub grouping_lines : List SetValue → ℕ → List CountyName → List ℕ
grouping_lines sets number listed = flat_map (λ k. line_text (grouping_fields sets number k)) listed

-- the lines of groupings under their numbers, the first of which is i
abbrev pub groupings_lines : List CountyName → List Withdrawn → ℕ → List (List Group) → List ℕ
groupings_lines listed withdrawn i [] = []
groupings_lines listed withdrawn i (groups ∷ rest) =
    grouping_lines (labelled_sets (unnamed_counties listed) withdrawn groups) i listed
    ++ groupings_lines listed withdrawn (i + 1) rest

-- the header, and for each grouping, numbered from 1, a line for each listed county
abbrev pub groupings_text : List CountyName → List Withdrawn → List (List Group) → List ℕ
groupings_text listed withdrawn groupings = groupings_header ++ groupings_lines listed withdrawn 1 groupings
