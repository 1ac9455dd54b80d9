-- The people that the text gives of a group are those of its counties.
use Rattle.std.specs.Prelude.{◌≡◌, All}
use Rattle.grouping_laws.specs.Problem.{people_of}
use Rattle.grouping_laws.specs.Grouping.{Grouping, Lawful}
use Rattle.county_problem.specs.ProblemValue.{ProblemValue, problem_of}
use Rattle.list_report.specs.Listing.{people_inside}

-- of each group of a lawful grouping: the people of the problem's counties in its set are the people of its codes
abbrev pub PeopleAreOfGroups : Type 0
PeopleAreOfGroups =
    (v : ProblemValue) (g : Grouping) → Lawful (problem_of v) g
    → All (λ s. people_inside v s.codes ≡ people_of (problem_of v) s.codes) g
