use Rattle.std.proofs.Common.{◌≡◌, ◌+◌, drop}
use Rattle.county_problem.specs.Building.{seats_in}
use Rattle.county_problem.proofs.building.seats_without.Given as goal

abbrev pub invariant-loop-set : goal.invariant-loop-set
invariant-loop-set l = l.left + seats_in l.sets ≡ l.chamber + seats_in (drop l.set-index l.sets)
