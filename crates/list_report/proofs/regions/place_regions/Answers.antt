use Rattle.std.proofs.Common.{◌≡◌, ◌==◌, ◌++◌, ◌∷◌, [], true, false, filter, map, rules}
use Rattle.list_report.proofs.Loops.{kept, left_out}
use Rattle.list_report.specs.declared.regions.Place.{Place}
use Rattle.list_report.proofs.regions.place_regions.Goals as goal
use Rattle.list_report.proofs.regions.place_regions.Goals.{then-eq+in_ok-region_of+in_ok-push, else-eq}

pub loop-place-preserved : goal.loop-place-preserved
loop-place-preserved c =
    let q = λ (p : Place). p.first == p.county in
    let F = λ (q : Place). map (λ (p : Place). p.county) (filter (λ p. p.first == q.county) c.args.places.now) in
    let now = c.loop-place.regions.items in
    elim c.if-eq.branch [
      | then-eq+in_ok-region_of+in_ok-push w ↦
          let passes : q c.place-item.result ≡ true = search rules in
          let new : c.if-eq.regions.items ≡ now ++ F c.place-item.result ∷ [] = search rules in
          kept q F now c.args.places.now c.loop-place.place-index c.place-item.result c.loop-place-test.true c.place-item.is passes new c.loop-place.invariant
      | else-eq w ↦
          let fails : q c.place-item.result ≡ false = search rules in
          let new : c.if-eq.regions.items ≡ now = search rules in
          left_out q F now c.args.places.now c.loop-place.place-index c.place-item.result c.loop-place-test.true c.place-item.is fails new c.loop-place.invariant
    ]
