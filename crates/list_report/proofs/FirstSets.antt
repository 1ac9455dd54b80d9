-- The sets of the first listed grouping.
use Rattle.std.proofs.Common.{◌≡◌, ◌≤◌, ◌∷◌, [], List, length, map, get_or, refl, arith}
use Rattle.county_codes.specs.declared.group.Grouping.{Grouping}
use Rattle.grouping_laws.specs.Grouping.{sets_of}
use Rattle.list_report.specs.SharedSets.{first_sets}

-- the groups of the first grouping are those of the first list
pub first_read : (gs : List Grouping) (g : Grouping) → 1 ≤ length gs
    → sets_of (get_or gs 0 g).groups.items ≡ first_sets (map sets_of (map (λ g. g.groups.items) gs))
first_read [] g some = absurd (omega (arith, some))
first_read (x ∷ xs) g some = refl
