-- The number of a grouping in a list of groupings, by its sets.
use Rattle.std.specs.Prelude.{ℕ, ◌&&◌, Bool, List, ◌++◌, Option, Some, None, codes, decimal}
use Rattle.std.specs.List.{list_all, list_any, position_from}
use Rattle.grouping_laws.specs.Sets.{contains}
use Rattle.grouping_laws.specs.Grouping.{Grouping}

-- two sets have the same counties
abbrev pub have_same_counties : List ℕ → List ℕ → Bool
have_same_counties s t = list_all (contains t) s && list_all (contains s) t

-- each set of the first grouping is a set of the second
abbrev pub has_sets_of : Grouping → Grouping → Bool
has_sets_of g h = list_all (λ k. list_any (λ l. have_same_counties k.codes l.codes) h) g

-- two groupings have the same sets, in any order and with any seats
abbrev pub have_same_sets : Grouping → Grouping → Bool
have_same_sets g h = has_sets_of g h && has_sets_of h g

-- the number of the first listed grouping with the sets of a grouping, from 1
abbrev pub number_in_list : Grouping → List Grouping → Option ℕ
number_in_list g groupings = position_from (have_same_sets g) 1 groupings

-- the line that tells the number, or that the grouping isn't listed
abbrev pub number_line : Option ℕ → List ℕ
number_line None = codes "number none\n"
number_line (Some n) = codes "number " ++ decimal n ++ codes "\n"

-- the exit status: 0 if the grouping is listed, else 1
abbrev pub number_status : Option ℕ → ℕ
number_status None = 1
number_status (Some n) = 0
