-- Withdrawn sets and groups, as the table labels them.
use Rattle.std.specs.Prelude.{ℕ, ◌+◌, List, [], ◌∷◌, ◌++◌, Option, filter, find, codes, decimal}
use Rattle.place_sets.specs.Lists.{contains}
use Rattle.county_codes.specs.Counties.{people_in}
use Rattle.county_codes.specs.declared.county.County.{County}
use Rattle.county_codes.specs.declared.group.Group.{Group}
use Rattle.county_codes.specs.declared.withdrawn.Withdrawn.{Withdrawn}

-- a set of counties with its label, its seats and its people
pub record SetValue : Type 0 where
  pub label : List ℕ
  pub seats : ℕ
  pub people : ℕ
  pub codes : List ℕ

-- the people of the listed counties in a set
abbrev pub people_of_set : List County → List ℕ → ℕ
people_of_set listed county_codes = people_in (filter (λ k. contains county_codes k.code) listed)

-- a set under a label
abbrev pub set_under : List County → List ℕ → ℕ → List ℕ → SetValue
set_under listed label seats county_codes =
    record { label = label; seats = seats; people = people_of_set listed county_codes; codes = county_codes }

-- groups under their numbers, the first of which is i
abbrev pub numbered_groups : List County → ℕ → List Group → List SetValue
numbered_groups listed i [] = []
numbered_groups listed i (g ∷ gs) = set_under listed (decimal i) g.seats g.codes ∷ numbered_groups listed (i + 1) gs

-- withdrawn sets under `W` and their numbers, the first of which is i
abbrev pub numbered_withdrawn : List County → ℕ → List Withdrawn → List SetValue
numbered_withdrawn listed i [] = []
numbered_withdrawn listed i (w ∷ ws) =
    set_under listed (codes "W" ++ decimal i) w.seats w.codes ∷ numbered_withdrawn listed (i + 1) ws

-- the withdrawn sets and then the groups, each numbered from 1
abbrev pub labelled_sets : List County → List Withdrawn → List Group → List SetValue
labelled_sets listed withdrawn groups = numbered_withdrawn listed 1 withdrawn ++ numbered_groups listed 1 groups

-- the first set that has the county of a code
abbrev pub set_of_code : List SetValue → ℕ → Option SetValue
set_of_code sets code = find (λ s. contains s.codes code) sets
