use Rattle.std.proofs.Common.{◌≡◌, take, map}
use Rattle.grouping_laws.specs.Problem.{people_of}
use Rattle.county_problem.specs.ProblemValue.{problem_of}
use Rattle.list_groupings.proofs.seating.people_of_sets.Given as goal

abbrev pub invariant-loop-set : goal.invariant-loop-set
invariant-loop-set l = l.people.items ≡ map (people_of (problem_of l.problem)) (take l.set-index l.sets)
