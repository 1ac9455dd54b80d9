use Rattle.std.proofs.Common.{◌≡◌, ◌+◌, ◌==◌, ◌||◌, length, drop}
use Rattle.std.specs.List.{position_from}
use Rattle.county_problem.proofs.building.empty_set.Given as goal

abbrev pub invariant-loop-i : goal.invariant-loop-i
invariant-loop-i l = position_from (λ w. length w.codes == 0 || w.seats == 0) (l.i + 1) (drop l.i l.sets) ≡ position_from (λ w. length w.codes == 0 || w.seats == 0) 1 l.sets
