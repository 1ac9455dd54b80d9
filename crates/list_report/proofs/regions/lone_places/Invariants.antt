use Rattle.std.proofs.Common.{◌≡◌, ◌++◌, drop}
use Rattle.list_report.specs.Places.{places_at}
use Rattle.list_report.proofs.regions.lone_places.Given as goal

abbrev pub invariant-loop-county : goal.invariant-loop-county
invariant-loop-county l = l.places.items ++ places_at (λ c. c) (drop l.county-index l.unshared) ≡ places_at (λ c. c) l.unshared
