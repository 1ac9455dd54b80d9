-- The object of a list of groupings.
use Rattle.std.specs.Prelude.{ℕ, ◌+◌, ◌==◌, true, false, List, [], ◌∷◌, ◌++◌, Option, Some, None, length, map, flat_map}
use Rattle.std.specs.Prelude.{codes, decimal, if◌then◌else◌}
use Rattle.json.specs.Token.{Token, begin_object, end_object, begin_array, end_array, key, number, boolean, null}
use Rattle.grouping_laws.specs.SeatWindow.{seat_run}
use Rattle.grouping_laws.specs.Grouping.{Grouping, sets_of}
use Rattle.county_problem.specs.ProblemValue.{ProblemValue, problem_of, codes_of}
use Rattle.pl94_counties.specs.CountyNames.{CountyName}
use Rattle.json_report.specs.Parts.{number_member, run_tokens, code_tokens}
use Rattle.json_report.specs.ReportObject.{answer_member, head_members, counts_tokens, object_line}
use Rattle.list_report.specs.declared.alternatives.Region.{Region}
use Rattle.list_report.specs.SharedSets.{first_sets, shared_sets}
use Rattle.list_report.specs.Alternatives.{sets_inside, number_of_alternative, product}
use Rattle.list_report.specs.Listing.{people_inside, regions_found}

-- a set: the seats that suit its people, its people and its counties
abbrev pub set_object : Option (ℕ × ℕ) → ℕ → List ℕ → List Token
set_object run people county_codes =
    begin_object ∷ (key (codes "seats") ∷ run_tokens run ++ number_member (codes "people") people
    ++ key (codes "counties") ∷ code_tokens county_codes) ++ end_object ∷ []

-- the objects of sets
abbrev pub set_objects : ProblemValue → List (List ℕ) → List Token
set_objects v sets =
    flat_map (λ s. set_object (seat_run (problem_of v) (people_inside v s)) (people_inside v s) s) sets

-- an array of sets
abbrev pub sets_tokens : ProblemValue → List (List ℕ) → List Token
sets_tokens v sets = begin_array ∷ set_objects v sets ++ end_array ∷ []

-- an alternative: its number and its sets
abbrev pub alternative_object : ProblemValue → ℕ → List (List ℕ) → List Token
alternative_object v i a =
    begin_object ∷ (number_member (codes "alternative") i ++ key (codes "groups") ∷ sets_tokens v a) ++ end_object ∷ []

-- alternatives, the first of which has number i
abbrev pub alternative_objects : ProblemValue → ℕ → List (List (List ℕ)) → List Token
alternative_objects v i [] = []
alternative_objects v i (a ∷ others) = alternative_object v i a ++ alternative_objects v (i + 1) others

-- a region: its number, its counties and its alternatives
abbrev pub region_object : ProblemValue → ℕ → Region → List Token
region_object v i r =
    begin_object ∷ (number_member (codes "region") i ++ key (codes "counties") ∷ code_tokens r.counties
    ++ key (codes "alternatives") ∷ begin_array ∷ alternative_objects v 1 r.alternatives ++ end_array ∷ [])
    ++ end_object ∷ []

-- regions, the first of which has number i
abbrev pub region_objects : ProblemValue → ℕ → List Region → List Token
region_objects v i [] = []
region_objects v i (r ∷ rs) = region_object v i r ++ region_objects v (i + 1) rs

-- the numbers of a grouping's alternatives, one for each region
abbrev pub choice_numbers : List Region → List (List ℕ) → List Token
choice_numbers found sets =
    map
    (λ r. number (decimal (number_of_alternative r.alternatives (sets_inside r.counties sets))))
    found

-- a grouping: its number and its alternatives
abbrev pub choice_object : List Region → ℕ → List (List ℕ) → List Token
choice_object found i g =
    begin_object ∷ (number_member (codes "grouping") i
    ++ key (codes "alternatives") ∷ begin_array ∷ choice_numbers found g ++ end_array ∷ []) ++ end_object ∷ []

-- groupings, the first of which has number i
abbrev pub choice_objects : List Region → ℕ → List (List (List ℕ)) → List Token
choice_objects found i [] = []
choice_objects found i (g ∷ gs) = choice_object found i g ++ choice_objects found (i + 1) gs

-- whether each combination of alternatives is listed; if not, the alternatives of each grouping
abbrev pub choices_members : List Region → List (List (List ℕ)) → List Token
choices_members found listed =
    if product found == length listed then key (codes "every_choice") ∷ boolean true ∷ []
    else key (codes "every_choice") ∷ boolean false ∷ key (codes "groupings") ∷ begin_array
    ∷ choice_objects found 1 listed ++ end_array ∷ []

-- how many groupings are listed, the sets that they share, the regions, and the alternatives of each grouping
abbrev pub body_members : ProblemValue → List (List (List ℕ)) → List Token
body_members v listed =
    let found = regions_found (codes_of v.counties) listed in
    number_member (codes "best_groupings") (length listed)
    ++ key (codes "shared_groups") ∷ sets_tokens v (shared_sets listed)
    ++ key (codes "regions") ∷ begin_array ∷ region_objects v 1 found ++ end_array ∷ choices_members found listed

-- the members of a list, as the sets of each grouping
abbrev pub listing_members : ProblemValue → List (List (List ℕ)) → List Token
listing_members v listed =
    answer_member (codes "all") ++ head_members v ++ key (codes "counts") ∷ counts_tokens (first_sets listed)
    ++ body_members v listed

-- the number of a grouping, or null if it isn't listed; nothing, if no number is asked for
abbrev pub which_member : Option (Option ℕ) → List Token
which_member None = []
which_member (Some None) = key (codes "number") ∷ null ∷ []
which_member (Some (Some n)) = number_member (codes "number") n

-- the object of a list of groupings, with the number of a grouping if it is asked for
abbrev pub listing_json : ProblemValue → Option (List CountyName) → List Grouping → Option (Option ℕ) → List ℕ
listing_json v named groupings which =
    object_line (listing_members v (map sets_of groupings) ++ which_member which) named
