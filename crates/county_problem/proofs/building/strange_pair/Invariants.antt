use Rattle.std.proofs.Common.{◌≡◌, drop, find}
use Rattle.county_problem.specs.Building.{is_strange}
use Rattle.county_problem.proofs.building.strange_pair.Given as goal

abbrev pub invariant-loop-a : goal.invariant-loop-a
invariant-loop-a l = find (is_strange l.listed) (drop l.a-index l.pairs) ≡ find (is_strange l.listed) l.pairs
