-- The object of a report.
use Rattle.std.specs.Prelude.{ℕ, zero, suc, ◌+◌, List, [], ◌∷◌, ◌++◌, length, Option, Some, None, codes, decimal}
use Rattle.json.specs.Token.{Token, begin_object, end_object, begin_array, end_array, key, number, null}
use Rattle.county_problem.specs.ProblemValue.{ProblemValue, problem_of}
use Rattle.grouping_laws.specs.Problem.{Problem, people_of}
use Rattle.grouping_laws.specs.Grouping.{Grouping, sets_of, counts}
use Rattle.grouping_report.specs.Report.{longest_size}
use Rattle.grouping_report.specs.declared.outcome.Outcome.{Outcome}
use Rattle.grouping_report.specs.declared.outcome.Outcome.TheVariants.{Lawful, Best, Impossible, Open}
use Rattle.pl94_counties.specs.CountyNames.{CountyName}
use Rattle.json_report.specs.Parts.{number_member, text_member, code_tokens, names_member, line_of}

-- the people, the chamber and the tolerance of a problem
abbrev pub first_members : ProblemValue → List Token
first_members v =
    number_member (codes "people") v.total_people ++ number_member (codes "chamber") v.chamber
    ++ key (codes "tolerance") ∷ begin_array ∷ number (decimal v.numerator) ∷ number (decimal v.denominator) ∷ end_array
    ∷ []

-- behind these, the seats left and how many counties there are
abbrev pub head_members : ProblemValue → List Token
head_members v =
    first_members v ++ number_member (codes "seats_left") v.seats_left
    ++ number_member (codes "counties") (length v.counties)

-- the numbers for sizes 1 to n
abbrev pub numbers_to : (ℕ → ℕ) → ℕ → List Token
numbers_to counted zero = []
numbers_to counted (suc n) = numbers_to counted n ++ number (decimal (counted (suc n))) ∷ []

-- how many sets have each size, up to the longest set's
abbrev pub counts_tokens : List (List ℕ) → List Token
counts_tokens sets = begin_array ∷ numbers_to (counts sets) (longest_size sets) ++ end_array ∷ []

-- a group: its number, its seats, its people and its counties
abbrev pub group_object : ℕ → ℕ → ℕ → List ℕ → List Token
group_object i seats people county_codes =
    begin_object ∷ (number_member (codes "group") i ++ number_member (codes "seats") seats
    ++ number_member (codes "people") people ++ key (codes "counties") ∷ code_tokens county_codes) ++ end_object ∷ []

-- groups, the first of which has number i
abbrev pub group_objects : Problem → ℕ → Grouping → List Token
group_objects p i [] = []
group_objects p i (s ∷ ss) = group_object i s.seats (people_of p s.codes) s.codes ++ group_objects p (i + 1) ss

-- the counts of a grouping, and its groups
abbrev pub grouping_members : ProblemValue → Grouping → List Token
grouping_members v g =
    key (codes "counts") ∷ counts_tokens (sets_of g)
    ++ key (codes "groups") ∷ begin_array ∷ group_objects (problem_of v) 1 g ++ end_array ∷ []

-- what the answer is
abbrev pub answer_member : List ℕ → List Token
answer_member answer = text_member (codes "answer") answer

-- an answer that is open, and after how many steps
abbrev pub open_members : ℕ → List Token
open_members steps = answer_member (codes "open") ++ number_member (codes "steps") steps

-- the members of an answer with its grouping
abbrev pub report_members : ProblemValue → List ℕ → Grouping → List Token
report_members v answer g = answer_member answer ++ head_members v ++ grouping_members v g

-- the members of an outcome
abbrev pub outcome_members : ProblemValue → Outcome → List Token
outcome_members v (Lawful g) = report_members v (codes "lawful") g.groups.items
outcome_members v (Best g) = report_members v (codes "best") g.groups.items
outcome_members v Impossible = answer_member (codes "impossible") ++ head_members v
outcome_members v (Open None steps) = open_members steps ++ head_members v ++ key (codes "groups") ∷ null ∷ []
outcome_members v (Open (Some g) steps) = open_members steps ++ head_members v ++ grouping_members v g.groups.items

-- the line of an object with these members, and with the names of the counties if they have names
abbrev pub object_line : List Token → Option (List CountyName) → List ℕ
object_line members named = line_of (begin_object ∷ (members ++ names_member named) ++ end_object ∷ [])

-- the report of an answer with its grouping
abbrev pub report_json : ProblemValue → Option (List CountyName) → List ℕ → Grouping → List ℕ
report_json v named answer g = object_line (report_members v answer g) named

-- the report of an outcome
abbrev pub outcome_json : ProblemValue → Option (List CountyName) → Outcome → List ℕ
outcome_json v named outcome = object_line (outcome_members v outcome) named

-- the counts of a lawful grouping that are greater than those of the judged one
abbrev pub greater_member : Grouping → List Token
greater_member target = key (codes "greater_counts") ∷ counts_tokens (sets_of target)

-- the report of a lawful grouping than which a target has greater counts
abbrev pub greater_json : ProblemValue → Option (List CountyName) → Grouping → Grouping → List ℕ
greater_json v named g target = object_line (report_members v (codes "lawful") g ++ greater_member target) named
