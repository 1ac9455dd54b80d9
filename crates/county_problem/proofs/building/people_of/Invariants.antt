use Rattle.std.proofs.Common.{◌≡◌, ◌+◌, ◌*◌, ◌≤◌, drop}
use Rattle.county_problem.specs.Building.{people_in}
use Rattle.county_problem.proofs.building.people_of.Given as goal

abbrev pub invariant-loop-county : goal.invariant-loop-county
invariant-loop-county l = record {
  left : l.total + people_in (drop l.county-index l.counties) ≡ people_in l.counties;
  small : l.total ≤ l.county-index * 4294967295;
}
