-- What the definitions of `specs/GroupingsTable.antt` say of two counties and two groupings that are written out.
use Rattle.std.proofs.Common.{◌≡◌, refl, List, [], ◌∷◌, codes}
use Rattle.std.specs.Fmt.{digits}
use Rattle.county_codes.specs.declared.group.Group.{Group}
use Rattle.county_codes.specs.declared.withdrawn.Withdrawn.{Withdrawn}
use Rattle.pl94_counties.specs.CountyNames.{CountyName}
use Rattle.grouping_table.specs.GroupingsTable.{groupings_text}

abbrev listed : List CountyName
listed = record { county = record { code = 37001; people = 100 }; name = codes "Alamance" } ∷ record { county = record { code = 37003; people = 200 }; name = codes "Alexander, the first" } ∷ []

abbrev withdrawn : List Withdrawn
withdrawn = record { seats = 2; codes = 37003 ∷ [] } ∷ []

-- one grouping has a group, and the other has none
abbrev groupings : List (List Group)
groupings = (record { seats = 11; codes = 37001 ∷ [] } ∷ []) ∷ [] ∷ []

example : groupings_text listed withdrawn groupings ≡ codes "GROUPING,GEOID,NAME,GROUP,SEATS\n1,37001,Alamance,1,11\n1,37003,\"Alexander, the first\",W1,2\n2,37001,Alamance,,\n2,37003,\"Alexander, the first\",W1,2\n"
unfolding digits
example = refl
