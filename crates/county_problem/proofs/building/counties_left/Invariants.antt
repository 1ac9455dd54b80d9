use Rattle.std.proofs.Common.{◌≡◌, ◌++◌, drop, filter, not}
use Rattle.grouping_laws.specs.Sets.{contains}
use Rattle.county_problem.proofs.building.counties_left.Given as goal

abbrev pub invariant-loop-county : goal.invariant-loop-county
invariant-loop-county l =
    l.left.items ++ filter (λ c. not (contains l.taken c.code)) (drop l.county-index l.counties) ≡ filter (λ c. not (contains l.taken c.code)) l.counties
