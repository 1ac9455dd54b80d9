use Rattle.std.proofs.Common.{◌≡◌, ◌∙◌, ◌==◌, ℕ, List, filter, map, ap, subst}
use Rattle.std.proofs.Common.{IfOk}
use Rattle.county_codes.specs.Counties.{codes_of}
use Rattle.list_report.specs.Regions.{first_county, unshared_counties}
use Rattle.list_report.specs.declared.regions.Place.{Place}
use Rattle.list_report.specs.Places.{places_at}
use Rattle.list_report.proofs.PlaceLists.{places_regions}
use Rattle.list_report.proofs.regions.regions_between.Goals as goal

pub returns : goal.returns
returns c =
    let sets = c.args.sets.now in
    let unshared = unshared_counties (codes_of c.args.counties.now) c.args.shared.now in
    let first = first_county unshared sets in
    let places : c.deref-2.result.now ≡ places_at first unshared =
    c.deref-2.ensures.value ∙ (c.in_ok-places.ensures ∙ ap (λ (l : List ℕ). places_at (first_county l sets) l) (c.deref.ensures.value ∙ c.in_ok-unshared.ensures)) in
    let found = λ (l : List Place). map (λ (q : Place). map (λ (p : Place). p.county) (filter (λ p. p.first == q.county) l)) (filter (λ (q : Place). q.first == q.county) l) in
    subst (λ (l : List (List ℕ)). IfOk c.place_regions.result (λ v. v.items ≡ l)) (ap found places ∙ places_regions first unshared) c.place_regions.ensures
