use Rattle.std.proofs.Common.{◌≡◌, fold, take}
use Rattle.list_report.specs.Regions.{join}
use Rattle.list_report.specs.Places.{places_at}
use Rattle.list_report.proofs.regions.joined_places.Given as goal

abbrev pub invariant-loop-set : goal.invariant-loop-set
invariant-loop-set l = l.places.items ≡ places_at (fold (join l.unshared) (λ c. c) (take l.set-index l.sets)) l.unshared
