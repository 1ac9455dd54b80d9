-- The text of a list of groupings.
use Rattle.std.specs.Prelude.{ℕ, ◌+◌, ◌==◌, List, [], ◌∷◌, ◌++◌, Option, Some, None, length, map, filter, flat_map}
use Rattle.std.specs.Prelude.{codes, decimal, if◌then◌else◌}
use Rattle.grouping_laws.specs.Sets.{contains}
use Rattle.grouping_laws.specs.SeatWindow.{seat_run}
use Rattle.grouping_laws.specs.Grouping.{Grouping, sets_of}
use Rattle.county_problem.specs.ProblemValue.{ProblemValue, problem_of, codes_of}
use Rattle.county_codes.specs.Counties.{people_in}
use Rattle.county_codes.specs.Digits.{each_after}
use Rattle.grouping_report.specs.FaultWords.{with_number}
use Rattle.grouping_report.specs.Report.{head_lines, answer_line, counts_line}
use Rattle.list_report.specs.declared.alternatives.Region.{Region}
use Rattle.list_report.specs.SharedSets.{first_sets, shared_sets, unshared_sets}
use Rattle.list_report.specs.Regions.{unshared_counties, regions}
use Rattle.list_report.specs.Alternatives.{sets_inside, with_alternatives, number_of_alternative, product}

-- the people of the problem's counties in a set
abbrev pub people_inside : ProblemValue → List ℕ → ℕ
people_inside v s = people_in (filter (λ k. contains s k.code) v.counties)

-- the number of seats that suits, or the least and the greatest of several
abbrev pub seats_words : Option (ℕ × ℕ) → List ℕ
seats_words None = codes "none"
seats_words (Some r) = if r.0 == r.1 then decimal r.0 else decimal r.0 ++ with_number (codes " to ") r.1

-- the line of a set: the seats that suit its people, its people and its codes
unfoldable pub set_line : Option (ℕ × ℕ) → ℕ → List ℕ → List ℕ
set_line run people county_codes =
    codes "group seats " ++ seats_words run ++ codes " people " ++ decimal people ++ codes " counties"
    ++ each_after (codes " ") county_codes ++ codes "\n"

-- the lines of sets
abbrev pub set_lines : ProblemValue → List (List ℕ) → List ℕ
set_lines v sets = flat_map (λ s. set_line (seat_run (problem_of v) (people_inside v s)) (people_inside v s) s) sets

-- alternatives, the first of which has number i: the number, and a line for each set
abbrev pub alternatives_text : ProblemValue → ℕ → List (List (List ℕ)) → List ℕ
alternatives_text v i [] = []
alternatives_text v i (a ∷ others) =
    (with_number (codes "alternative ") i ++ codes "\n" ++ set_lines v a) ++ alternatives_text v (i + 1) others

-- the line of a region: its number, how many counties it has, and how many alternatives
unfoldable pub region_line : ℕ → ℕ → ℕ → List ℕ
region_line i counties alternatives =
    codes "region " ++ decimal i ++ codes " counties " ++ decimal counties ++ codes " alternatives "
    ++ decimal alternatives ++ codes "\n"

-- regions, the first of which has number i: the line, and the alternatives
abbrev pub regions_text : ProblemValue → ℕ → List Region → List ℕ
regions_text v i [] = []
regions_text v i (r ∷ rs) =
    (region_line i (length r.counties) (length r.alternatives) ++ alternatives_text v 1 r.alternatives)
    ++ regions_text v (i + 1) rs

-- the numbers of a grouping's alternatives, one for each region, each after a blank
abbrev pub choice_numbers : List Region → List (List ℕ) → List ℕ
choice_numbers found sets =
    flat_map (λ r. with_number (codes " ") (number_of_alternative r.alternatives (sets_inside r.counties sets))) found

-- for each grouping, the first of which has number i, a line of its alternatives
abbrev pub choice_lines : List Region → ℕ → List (List (List ℕ)) → List ℕ
choice_lines found i [] = []
choice_lines found i (g ∷ gs) =
    (with_number (codes "grouping ") i ++ codes " alternatives" ++ choice_numbers found g ++ codes "\n")
    ++ choice_lines found (i + 1) gs

-- the line that each combination of alternatives is listed, or a line of alternatives for each grouping
abbrev pub choices_text : List Region → List (List (List ℕ)) → List ℕ
choices_text found listed =
    if product found == length listed then codes "every choice\n" else choice_lines found 1 listed

-- how many groupings are listed, how many sets they share, and these
unfoldable pub shared_text : ProblemValue → ℕ → List (List ℕ) → List ℕ
shared_text v number shared =
    codes "best groupings " ++ decimal number ++ codes "\nshared groups " ++ decimal (length shared) ++ codes "\n"
    ++ set_lines v shared

-- the regions of the counties that no shared set has, with their alternatives
abbrev pub regions_found : List ℕ → List (List (List ℕ)) → List Region
regions_found counties listed =
    let shared = shared_sets listed in
    with_alternatives listed (regions (unshared_counties counties shared) (unshared_sets shared listed))

-- what stands behind the counts: the shared sets, the regions, and which alternatives each grouping has
abbrev pub body_text : ProblemValue → List (List (List ℕ)) → List ℕ
body_text v listed =
    let found = regions_found (codes_of v.counties) listed in
    shared_text v (length listed) (shared_sets listed) ++ regions_text v 1 found ++ choices_text found listed

-- the text of the listed groupings, as the sets of each
abbrev pub sets_text : ProblemValue → List (List (List ℕ)) → List ℕ
sets_text v listed = head_lines v ++ answer_line (codes "all") ++ counts_line (first_sets listed) ++ body_text v listed

-- the text of a list of groupings
abbrev pub listing_text : ProblemValue → List Grouping → List ℕ
listing_text v groupings = sets_text v (map sets_of groupings)
