use Rattle.std.proofs.Common.{◌≡◌, map}
use Rattle.place_sets.specs.PlaceSets.{places_of}
use Rattle.county_problem.specs.OrderedValue.{problem_at}
use Rattle.state_groups.proofs.people.places_by_people.Given as goal

abbrev pub invariant-loop-place : goal.invariant-loop-place
invariant-loop-place g l = l.places.items ≡ map (λ x. ((problem_at l.ordered).people x, x)) (places_of l.place (g.C.CountySet.test l.set))
