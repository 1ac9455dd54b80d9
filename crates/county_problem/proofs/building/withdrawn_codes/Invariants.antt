use Rattle.std.proofs.Common.{◌≡◌, ◌++◌, drop}
use Rattle.county_problem.specs.Building.{codes_in}
use Rattle.county_problem.proofs.building.withdrawn_codes.Given as goal

abbrev pub invariant-loop-set : goal.invariant-loop-set
invariant-loop-set l = l.codes.items ++ codes_in (drop l.set-index l.sets) ≡ codes_in l.sets
