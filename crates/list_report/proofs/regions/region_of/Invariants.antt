use Rattle.std.proofs.Common.{◌≡◌, ◌==◌, ◌++◌, map, filter, drop}
use Rattle.list_report.proofs.regions.region_of.Given as goal

abbrev pub invariant-loop-place : goal.invariant-loop-place
invariant-loop-place l = l.counties.items ++ map (λ p. p.county) (filter (λ p. p.first == l.first) (drop l.place-index l.places)) ≡ map (λ p. p.county) (filter (λ p. p.first == l.first) l.places)
