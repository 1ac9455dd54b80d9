use Rattle.std.proofs.Common.{◌≡◌, ◌++◌, map, drop}
use Rattle.county_problem.specs.ProblemValue.{people_at}
use Rattle.county_problem.proofs.ordered_counties.people_by_place.Given as goal

abbrev pub invariant-loop-code : goal.invariant-loop-code
invariant-loop-code l = l.people.items ++ map (people_at l.counties) (drop l.code-index l.order) ≡ map (people_at l.counties) l.order
