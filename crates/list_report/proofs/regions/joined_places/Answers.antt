use Rattle.std.proofs.Common.{◌≡◌, ◌∙◌, ◌+◌, ℕ, List, take, map, fold, sym, ap}
use Rattle.std.proofs.lemmas.List.Sums.{fold_more}
use Rattle.list_report.specs.declared.regions.Place.{Place}
use Rattle.list_report.specs.Regions.{join}
use Rattle.list_report.specs.Places.{places_at, places_met, moved}
use Rattle.list_report.proofs.PlaceLists.{places_join}
use Rattle.list_report.proofs.regions.joined_places.Goals as goal

pub loop-set-preserved : goal.loop-set-preserved
loop-set-preserved c =
    let unshared = c.args.unshared.now in
    let sets = c.args.sets.now in
    let i = c.loop-set.set-index in
    let s = c.set-item.result in
    let f = fold (join unshared) (λ (c : ℕ). c) (take i sets) in
    let step : fold (join unshared) (λ (c : ℕ). c) (take (i + 1) sets) ≡ join unshared f s = fold_more (join unshared) (λ (c : ℕ). c) sets i s c.loop-set-test.true ∙ ap (join unshared f) (sym c.set-item.is) in
    let old : c.deref.result.now ≡ places_at f unshared = c.deref.ensures.value ∙ c.loop-set.invariant in
    let joined = λ (l : List Place) (t : List ℕ). map (λ (p : Place). record { county = p.county; first = moved (places_met l t) p.first }) l in
    c.in_ok-places-2.ensures
    ∙ (ap (λ (l : List Place). joined l c.as_slice.result.now) old
    ∙ (ap (joined (places_at f unshared)) c.as_slice.ensures ∙ (places_join f unshared s ∙ ap (λ (g : ℕ → ℕ). places_at g unshared) (sym step))))
