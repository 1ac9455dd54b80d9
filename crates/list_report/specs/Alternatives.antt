-- What the listed groupings choose in each region.
use Rattle.std.specs.Prelude.{ℕ, ◌+◌, ◌*◌, List, [], ◌∷◌, ◌++◌, fold, map, filter, length, if◌then◌else◌}
use Rattle.std.specs.List.{list_any, list_all}
use Rattle.grouping_laws.specs.Sets.{contains}
use Rattle.list_report.specs.declared.alternatives.Region.{Region}
use Rattle.list_report.specs.SharedSets.{same_sets}

-- the sets of a grouping whose counties all lie in the region
abbrev pub sets_inside : List ℕ → List (List ℕ) → List (List ℕ)
sets_inside counties sets = filter (λ s. list_all (contains counties) s) sets

-- a choice is added behind the others, if it isn't among them
abbrev pub add_choice : List (List (List ℕ)) → List (List ℕ) → List (List (List ℕ))
add_choice choices choice = if list_any (λ x. same_sets x choice) choices then choices else choices ++ choice ∷ []

-- the different choices of the listed groupings in the region, in the order of the first grouping that has each
abbrev pub alternatives : List (List (List ℕ)) → List ℕ → List (List (List ℕ))
alternatives listed counties = fold add_choice [] (map (sets_inside counties) listed)

-- the regions with their alternatives
abbrev pub with_alternatives : List (List (List ℕ)) → List (List ℕ) → List Region
with_alternatives listed parts =
    map (λ counties. record { counties = counties; alternatives = alternatives listed counties }) parts

-- the number, from 1, of the first alternative that has the same sets
abbrev pub number_of_alternative : List (List (List ℕ)) → List (List ℕ) → ℕ
number_of_alternative [] choice = 1
number_of_alternative (x ∷ xs) choice = if same_sets x choice then 1 else 1 + number_of_alternative xs choice

-- the product of the numbers of alternatives
abbrev pub product : List Region → ℕ
product [] = 1
product (r ∷ rs) = length r.alternatives * product rs
