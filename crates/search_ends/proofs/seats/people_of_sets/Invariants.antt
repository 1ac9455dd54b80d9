use Rattle.std.proofs.Common.{◌≡◌, map, take}
use Rattle.county_problem.specs.ProblemValue.{problem_of}
use Rattle.grouping_laws.specs.Problem.{people_of}
use Rattle.state_groups.specs.PlacedValues.{codes_of_set}
use Rattle.search_ends.proofs.seats.people_of_sets.Given as goal

abbrev pub invariant-loop-set : goal.invariant-loop-set
invariant-loop-set g l = l.people.items ≡ map (λ s. people_of (problem_of l.ordered.problem) (codes_of_set l.ordered.order g.C.CountySet.test s)) (take l.set-index l.sets)
