use Rattle.std.proofs.Common.{◌≡◌, ◌==◌, ◌++◌, map, filter, drop}
use Rattle.list_report.proofs.regions.place_regions.Given as goal

abbrev pub invariant-loop-place : goal.invariant-loop-place
invariant-loop-place l = l.regions.items ++ map (λ q. map (λ p. p.county) (filter (λ p. p.first == q.county) l.places)) (filter (λ q. q.first == q.county) (drop l.place-index l.places)) ≡ map (λ q. map (λ p. p.county) (filter (λ p. p.first == q.county) l.places)) (filter (λ q. q.first == q.county) l.places)
