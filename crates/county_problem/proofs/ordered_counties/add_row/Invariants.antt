use Rattle.std.proofs.Common.{◌≡◌, ◌++◌, map, drop}
use Rattle.county_problem.specs.ProblemValue.{problem_of}
use Rattle.county_problem.proofs.ordered_counties.add_row.Given as goal

abbrev pub invariant-loop-code : goal.invariant-loop-code
invariant-loop-code l =
    l.rows.items ++ map ((problem_of l.problem).adjacent l.fn.from) (drop l.code-index l.order) ≡ l.initial.rows.items ++ map ((problem_of l.problem).adjacent l.fn.from) l.order
