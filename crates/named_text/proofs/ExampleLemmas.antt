-- What the definitions of `specs/NamedText.antt` say of a text that is written out.
use Rattle.std.proofs.Common.{◌≡◌, refl, List, [], ◌∷◌, ◌++◌, codes}
use Rattle.pl94_counties.specs.CountyNames.{CountyName}
use Rattle.named_text.specs.NamedText.{named_text}

-- two counties with names, and one whose name is empty
abbrev listed : List CountyName
listed =
    record { county = record { code = 37049; people = 100720 }; name = codes "Craven County" }
    ∷ record { county = record { code = 37133; people = 204576 }; name = codes "Onslow\tCounty" }
    ∷ record { county = record { code = 37137; people = 12276 }; name = [] } ∷ []

-- the lines of groups get the names, and the other lines stay
example : named_text listed
    (codes "counties 3\nregion 1 counties 37049\ngroup 1 counties 37133 37049\ngroup 2 counties 37137 37001 37049\n")
    ≡ codes "counties 3\nregion 1 counties 37049\n"
    ++ codes "group 1 counties 37133 Onslow County, 37049 Craven County\n"
    ++ codes "group 2 counties 37137, 37001, 37049 Craven County\n"
example = refl
