-- Counties with their names, as the definitions have them.
use Rattle.std.proofs.Common.{◌≡◌, List, [], ◌∷◌, map, refl, ap, ◌∙◌}
use Rattle.county_codes.specs.declared.county.County.{County}
use Rattle.pl94_counties.specs.declared.county_names.NamedCounty.{NamedCounty}
use Rattle.pl94_counties.specs.CountyNames.{county_name}
use Rattle.grouping_table.specs.Table.{unnamed_counties as without_names}

-- the counties without their names
pub bare : (named : List NamedCounty) → map (λ k. k.county) named ≡ without_names (map county_name named)
bare [] = refl
bare (k ∷ ks) = ap (λ (rest : List County). k.county ∷ rest) (bare ks)

-- the counties that a problem is of, which were read with their names
pub bare_listed : (named held : List NamedCounty) (counties listed : List County) → listed ≡ counties → counties ≡ map (λ k. k.county) held → held ≡ named → listed ≡ without_names (map county_name named)
bare_listed named held counties listed is are kept = is ∙ are ∙ ap (map (λ (k : NamedCounty). k.county)) kept ∙ bare named
