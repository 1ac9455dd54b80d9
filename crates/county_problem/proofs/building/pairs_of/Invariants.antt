use Rattle.std.proofs.Common.{◌≡◌, ◌++◌, drop, filter}
use Rattle.county_problem.specs.Building.{joins}
use Rattle.county_problem.proofs.building.pairs_of.Given as goal

abbrev pub invariant-loop-a : goal.invariant-loop-a
invariant-loop-a l = l.joined.items ++ filter (joins l.codes) (drop l.a-index l.pairs) ≡ filter (joins l.codes) l.pairs
