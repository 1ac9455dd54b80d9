use Rattle.std.proofs.Common.{map, take, length}
use Rattle.place_sets.specs.PlaceSets.{places_of}
use Rattle.county_problem.specs.OrderedValue.{problem_at}
use Rattle.state_groups.specs.Sums.{AreSums}
use Rattle.state_groups.proofs.seats.seat_sums.Given as goal

abbrev pub invariant-loop-set : goal.invariant-loop-set
invariant-loop-set g l = AreSums (problem_at l.ordered) (map (λ s. places_of (length l.ordered.order) (g.C.CountySet.test s)) (take l.set-index l.sets)) l.least l.greatest
