use Rattle.std.proofs.Common.{◌≡◌, ◌++◌, map, drop}
use Rattle.std.specs.List.{flat_map}
use Rattle.county_problem.specs.ProblemValue.{problem_of}
use Rattle.county_problem.specs.OrderedValue.{rows_of}
use Rattle.county_problem.proofs.ordered_counties.adjacency_rows.Given as goal

abbrev pub invariant-loop-code : goal.invariant-loop-code
invariant-loop-code l =
    l.rows.items ++ flat_map (λ c. map ((problem_of l.problem).adjacent c) l.order) (drop l.code-index l.order) ≡ rows_of (problem_of l.problem).adjacent l.order
