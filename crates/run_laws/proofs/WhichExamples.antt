-- What the definitions of `specs/WhichGrouping.antt` say of a state of three counties and of two groupings.
use Rattle.std.proofs.Common.{◌≡◌, refl, List, [], ◌∷◌, Some, None, codes}
use Rattle.std.specs.Fmt.{digits}
use Rattle.grouping_laws.specs.Grouping.{Grouping}
use Rattle.run_laws.specs.WhichGrouping.{number_in_list, number_line}

-- the first two counties are a group, and the third is one
abbrev first : Grouping
first = record { seats = 3; codes = 37001 ∷ 37003 ∷ [] } ∷ record { seats = 1; codes = 37005 ∷ [] } ∷ []

-- the first county is a group, and the other two are one
abbrev second : Grouping
second = record { seats = 1; codes = 37001 ∷ [] } ∷ record { seats = 3; codes = 37003 ∷ 37005 ∷ [] } ∷ []

abbrev listed : List Grouping
listed = first ∷ second ∷ []

-- the sets of the second grouping in another order, with their codes in another order and with other seats
abbrev turned : Grouping
turned = record { seats = 2; codes = 37005 ∷ 37003 ∷ [] } ∷ record { seats = 2; codes = 37001 ∷ [] } ∷ []

-- the first and the third county are a group, which no listed grouping has
abbrev other : Grouping
other = record { seats = 3; codes = 37001 ∷ 37005 ∷ [] } ∷ record { seats = 1; codes = 37003 ∷ [] } ∷ []

-- only one group of the second grouping
abbrev part : Grouping
part = record { seats = 1; codes = 37001 ∷ [] } ∷ []

turned_is_second : number_in_list turned listed ≡ Some 2
turned_is_second = refl

other_is_none : number_in_list other listed ≡ None
other_is_none = refl

part_is_none : number_in_list part listed ≡ None
part_is_none = refl

line_of_turned : number_line (number_in_list turned listed) ≡ codes "number 2\n"
unfolding digits
line_of_turned = refl

line_of_other : number_line (number_in_list other listed) ≡ codes "number none\n"
line_of_other = refl
