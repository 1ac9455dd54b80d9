-- The object of a size table.
use Rattle.std.specs.Prelude.{ℕ, List, [], ◌∷◌, ◌++◌, Option, Some, codes, nat_le, if◌then◌else◌}
use Rattle.std.specs.List.{flat_map}
use Rattle.json.specs.Token.{Token, begin_object, end_object, begin_array, end_array, key, null}
use Rattle.county_codes.specs.declared.county.County.{County}
use Rattle.county_codes.specs.Digits.{five_digits}
use Rattle.county_problem.specs.ProblemValue.{ProblemValue, problem_of}
use Rattle.grouping_laws.specs.SeatWindow.{seat_run, people_bounds}
use Rattle.pl94_counties.specs.CountyNames.{CountyName}
use Rattle.json_report.specs.Parts.{number_member, text_member, run_tokens}
use Rattle.json_report.specs.ReportObject.{first_members, answer_member, object_line}

-- the least and the greatest number of people of a district, or null where no number of people suits one seat
abbrev pub bounds_tokens : ℕ × ℕ → List Token
bounds_tokens b = if nat_le b.0 b.1 then run_tokens (Some b) else null ∷ []

-- a county: its code, its people, and the least and the greatest number of seats that they suit
abbrev pub county_object : ℕ → ℕ → Option (ℕ × ℕ) → List Token
county_object code people run =
    begin_object ∷ (text_member (codes "county") (five_digits code) ++ number_member (codes "people") people
    ++ key (codes "seats") ∷ run_tokens run) ++ end_object ∷ []

-- the objects of counties
abbrev pub county_objects : ProblemValue → List County → List Token
county_objects v counties = flat_map (λ k. county_object k.code k.people (seat_run (problem_of v) k.people)) counties

-- the size table of a problem
abbrev pub size_members : ProblemValue → List Token
size_members v =
    answer_member (codes "sizes") ++ first_members v
    ++ key (codes "district") ∷ bounds_tokens (people_bounds (problem_of v) 1)
    ++ key (codes "sizes") ∷ begin_array ∷ county_objects v v.counties ++ end_array ∷ []

abbrev pub size_json : ProblemValue → Option (List CountyName) → List ℕ
size_json v named = object_line (size_members v) named
