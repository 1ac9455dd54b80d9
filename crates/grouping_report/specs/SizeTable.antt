-- The text of a size table.
use Rattle.std.specs.Prelude.{ℕ, List, ◌++◌, Option, Some, None, codes, decimal, nat_le, if◌then◌else◌}
use Rattle.std.specs.List.{flat_map}
use Rattle.county_problem.specs.ProblemValue.{ProblemValue, problem_of}
use Rattle.grouping_laws.specs.SeatWindow.{seat_run, people_bounds}
use Rattle.county_codes.specs.declared.county.County.{County}
use Rattle.county_codes.specs.Digits.{five_digits}
use Rattle.grouping_report.specs.FirstLines.{first_lines}

-- the least and the greatest number of seats, or `none`
abbrev pub run_text : Option (ℕ × ℕ) → List ℕ
run_text None = codes "none"
run_text (Some r) = decimal r.0 ++ codes "|" ++ decimal r.1

-- the least and the greatest number of people of a district, or `none` where no number of people suits one seat
abbrev pub bounds_text : ℕ × ℕ → List ℕ
bounds_text b = if nat_le b.0 b.1 then decimal b.0 ++ codes " to " ++ decimal b.1 else codes "none"

-- the line of a county
unfoldable pub county_line : ℕ → ℕ → Option (ℕ × ℕ) → List ℕ
county_line code people run = five_digits code ++ codes "|" ++ decimal people ++ codes "|" ++ run_text run ++ codes "\n"

-- the line of the bounds of a district
unfoldable pub district_line : ℕ × ℕ → List ℕ
district_line bounds = codes "district " ++ bounds_text bounds ++ codes "\n"

-- the lines of counties
abbrev pub lines_text : ProblemValue → List County → List ℕ
lines_text v counties = flat_map (λ k. county_line k.code k.people (seat_run (problem_of v) k.people)) counties

-- the size table of a problem: its people, its chamber, its tolerance where it isn't one twentieth, the bounds of a
-- district, and the lines of its counties
unfoldable pub size_text : ProblemValue → List ℕ
size_text v = first_lines v ++ district_line (people_bounds (problem_of v) 1) ++ lines_text v v.counties
