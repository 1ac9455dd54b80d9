use Rattle.std.proofs.Common.{◌≡◌, ◌∙◌, ◌++◌, ℕ, List, length, ap, subst}
use Rattle.std.proofs.Common.{OnOk}
use Rattle.grouping_report.proofs.Appends.{first, after, last}
use Rattle.county_codes.specs.Counties.{codes_of}
use Rattle.county_codes.specs.declared.county.County.{County}
use Rattle.list_report.specs.SharedSets.{shared_sets}
use Rattle.list_report.specs.declared.alternatives.Region.{Region}
use Rattle.list_report.specs.Listing.{shared_text, regions_text, choices_text, regions_found}
use Rattle.list_report.proofs.listings.push_body.Goals as goal

pub returns : goal.returns
returns c =
    let listed = c.args.listed.now in
    let v = c.args.problem.now in
    let shared : c.deref-2.result.now ≡ shared_sets listed = c.deref-2.ensures.value ∙ c.in_ok-shared.ensures in
    let found = regions_found (codes_of v.counties) listed in
    let regions : c.in_ok-regions.regions.items ≡ found = c.in_ok-regions.ensures ∙ ap (λ (ks : List County). regions_found (codes_of ks) listed) c.counties.ensures.value in
    let body = λ (s : List (List ℕ)) (first second : List Region). shared_text v (length listed) s ++ regions_text v 1 first ++ choices_text second listed in
    let same : body c.deref-2.result.now c.deref-3.result.now c.deref-4.result.now ≡ body (shared_sets listed) found found =
    ap (λ (s : List (List ℕ)). body s c.deref-3.result.now c.deref-4.result.now) shared
    ∙ (ap (λ (r : List Region). body (shared_sets listed) r c.deref-4.result.now) (c.deref-3.ensures.value ∙ regions) ∙ ap (body (shared_sets listed) found) (c.deref-4.ensures.value ∙ regions)) in
    let one = first c.args.out.now.items _ c.in_ok-push_shared.ensures in
    let two = after _ one c.in_ok-push_regions.ensures in
    subst (λ (l : List ℕ). OnOk c.push_choices.result (c.push_choices.new.out.items ≡ c.args.out.now.items ++ l)) same (last c.push_choices.result _ _ two c.push_choices.ensures)

pub found_regions-requires : goal.found_regions-requires
found_regions-requires c = c.deref.ensures.value ∙ c.in_ok-shared.ensures
