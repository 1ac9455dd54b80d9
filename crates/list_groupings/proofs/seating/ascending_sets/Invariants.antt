use Rattle.std.proofs.Common.{◌≡◌, filter, take, map}
use Rattle.grouping_laws.specs.Sets.{contains}
use Rattle.county_problem.specs.ProblemValue.{problem_of}
use Rattle.list_groupings.proofs.seating.ascending_sets.Given as goal

abbrev pub invariant-loop-codes : goal.invariant-loop-codes
invariant-loop-codes l = l.sets.items ≡ map (λ g. filter (contains g) (problem_of l.problem).counties) (take l.codes-index l.closed)
