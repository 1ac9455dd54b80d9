-- The first lines of a report and of a size table.
use Rattle.std.specs.Prelude.{List, [], ℕ, ◌++◌, Option, Some, None, codes, decimal}
use Rattle.county_codes.specs.declared.tolerance.Tolerance.{Tolerance}
use Rattle.grouping_laws.specs.Tolerance.{named_tolerance}
use Rattle.county_problem.specs.ProblemValue.{ProblemValue, problem_of}

-- the line of a tolerance: its part and its whole
unfoldable pub named_line : Tolerance → List ℕ
named_line w = codes "window " ++ decimal w.numerator ++ codes " " ++ decimal w.denominator ++ codes "\n"

-- the line of a tolerance that is named, and nothing where none is
unfoldable pub tolerance_line : Option Tolerance → List ℕ
tolerance_line None = []
tolerance_line (Some w) = named_line w

-- the people and the chamber of a problem, and its tolerance, which isn't named where it is one twentieth
unfoldable pub first_lines : ProblemValue → List ℕ
first_lines v =
    codes "people " ++ decimal v.total_people ++ codes "\nchamber " ++ decimal v.chamber ++ codes "\n"
    ++ tolerance_line (named_tolerance (problem_of v))
