use Rattle.std.proofs.Common.{◌≡◌, ◌++◌, drop}
use Rattle.list_report.specs.Places.{places_met}
use Rattle.list_report.proofs.regions.met_by.Given as goal

abbrev pub invariant-loop-place : goal.invariant-loop-place
invariant-loop-place l = l.met.items ++ places_met (drop l.place-index l.places) l.set ≡ places_met l.places l.set
