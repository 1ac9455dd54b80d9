use Rattle.std.proofs.Common.{◌≡◌, ◌∙◌, ℕ, List, ap, subst}
use Rattle.std.proofs.Common.{IfOk}
use Rattle.county_codes.specs.Counties.{codes_of}
use Rattle.list_report.specs.SharedSets.{unshared_sets}
use Rattle.list_report.specs.Regions.{unshared_counties, regions}
use Rattle.list_report.specs.Alternatives.{with_alternatives}
use Rattle.list_report.proofs.listings.found_regions.Goals as goal

pub returns : goal.returns
returns c =
    let listed = c.args.listed.now in
    let counties = codes_of c.args.counties.now in
    let parts = c.deref-2.ensures.value
    ∙ (c.in_ok-parts.ensures
    ∙ (ap (regions (unshared_counties counties c.args.shared.now)) (c.deref.ensures.value ∙ c.in_ok-unshared.ensures)
    ∙ ap (λ (s : List (List ℕ)). regions (unshared_counties counties s) (unshared_sets s listed)) c.requires)) in
    subst (λ (l : List (List ℕ)). IfOk c.regions_with.result (λ v. v.items ≡ with_alternatives listed l)) parts c.regions_with.ensures
