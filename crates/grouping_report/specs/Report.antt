-- The text of a report.
use Rattle.std.specs.Prelude.{ℕ, zero, suc, ◌+◌, List, [], ◌∷◌, ◌++◌, length, max, codes, decimal}
use Rattle.grouping_laws.specs.Problem.{Problem, people_of}
use Rattle.county_problem.specs.ProblemValue.{ProblemValue, problem_of}
use Rattle.grouping_laws.specs.Grouping.{Grouping, sets_of, counts}
use Rattle.county_codes.specs.Digits.{each_after}
use Rattle.grouping_report.specs.FirstLines.{first_lines}

-- the people, the chamber, the tolerance where it isn't one twentieth, the seats left, and how many counties there are
unfoldable pub head_lines : ProblemValue → List ℕ
head_lines v =
    first_lines v ++ codes "seats left " ++ decimal v.seats_left ++ codes "\ncounties " ++ decimal (length v.counties)
    ++ codes "\n"

-- what the answer is
abbrev pub answer_line : List ℕ → List ℕ
answer_line answer = codes "answer " ++ answer ++ codes "\n"

-- the size of the longest set
abbrev pub longest_size : List (List ℕ) → ℕ
longest_size [] = 0
longest_size (s ∷ ss) = max (length s) (longest_size ss)

-- the numbers of sizes 1 to n, each after a blank
abbrev pub numbers_to : (ℕ → ℕ) → ℕ → List ℕ
numbers_to number zero = []
numbers_to number (suc n) = numbers_to number n ++ codes " " ++ decimal (number (suc n))

-- how many sets have each size, up to the longest set's, or `none` without sets
abbrev pub counts_line : List (List ℕ) → List ℕ
counts_line [] = codes "counts none\n"
counts_line (s ∷ ss) = codes "counts" ++ numbers_to (counts (s ∷ ss)) (longest_size (s ∷ ss)) ++ codes "\n"

-- the line of a group: its number, its seats, its people and its codes
unfoldable pub group_line : ℕ → ℕ → ℕ → List ℕ → List ℕ
group_line i seats people county_codes =
    codes "group " ++ decimal i ++ codes " seats " ++ decimal seats ++ codes " people " ++ decimal people
    ++ codes " counties"
    ++ each_after (codes " ") county_codes ++ codes "\n"

-- the lines of groups, the first of which has number i
abbrev pub group_lines : Problem → ℕ → Grouping → List ℕ
group_lines p i [] = []
group_lines p i (s ∷ ss) = group_line i s.seats (people_of p s.codes) s.codes ++ group_lines p (i + 1) ss

-- the report of an answer with its grouping
abbrev pub report_text : ProblemValue → List ℕ → Grouping → List ℕ
report_text v answer g = head_lines v ++ answer_line answer ++ counts_line (sets_of g) ++ group_lines (problem_of v) 1 g

-- the words of an answer that is open after `steps` steps
unfoldable pub open_words : ℕ → List ℕ
open_words steps = codes "open after " ++ decimal steps ++ codes " steps"
