use Rattle.std.proofs.Common.{◌≡◌, ◌∙◌, List, ap, append_assoc}
use Rattle.county_codes.specs.Counties.{codes_of}
use Rattle.county_codes.specs.declared.county.County.{County}
use Rattle.list_report.specs.SharedSets.{shared_sets}
use Rattle.list_report.specs.Listing.{regions_found}
use Rattle.list_report.specs.ListingObject.{sets_tokens, region_objects, choices_members}
use Rattle.json_report.proofs.Adding.{token, part, part_of, last_of}
use Rattle.list_report.proofs.json_listing.push_body.Goals as goal

pub returns : goal.returns
returns c =
    let listed = c.args.listed.now in
    let v = c.args.problem.now in
    let found = regions_found (codes_of v.counties) listed in
    let regions : c.in_ok-regions.regions.items ≡ found =
    c.in_ok-regions.ensures
    ∙ ap (λ (ks : List County). regions_found (codes_of ks) listed) c.counties.ensures.value in
    rw append_assoc
    (part _ c.in_ok-push_number.ensures
    (token c.in_ok-key.ensures
    (part_of (sets_tokens v) (shared_sets listed) (c.deref-2.ensures.value ∙ c.in_ok-shared.ensures)
    c.in_ok-push_sets.ensures
    (token c.in_ok-key-2.ensures
    (token c.in_ok-begin_array.ensures
    (part_of (region_objects v 1) found (c.deref-3.ensures.value ∙ regions) c.in_ok-push_regions.ensures
    (token c.in_ok-end_array.ensures
    (last_of _ (λ r. choices_members r listed) found (c.deref-4.ensures.value ∙ regions)
    c.push_all_choices.ensures)))))))).adds

pub found_regions-requires : goal.found_regions-requires
found_regions-requires c = c.deref.ensures.value ∙ c.in_ok-shared.ensures
