use Rattle.std.proofs.Common.{◌≡◌, ◌++◌, map, drop}
use Rattle.list_report.specs.Places.{places_met, moved}
use Rattle.list_report.proofs.regions.after_join.Given as goal

abbrev pub invariant-loop-place : goal.invariant-loop-place
invariant-loop-place l = l.joined.items ++ map (λ p. record { county = p.county; first = moved (places_met l.places l.set) p.first }) (drop l.place-index l.places) ≡ map (λ p. record { county = p.county; first = moved (places_met l.places l.set) p.first }) l.places
