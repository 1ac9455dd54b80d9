use Rattle.std.proofs.Common.{◌≡◌, ◌∙◌, map, ap}
use Rattle.county_codes.specs.declared.group.Grouping.{Grouping}
use Rattle.grouping_laws.specs.Grouping.{sets_of}
use Rattle.json_report.specs.ReportObject.{counts_tokens}
use Rattle.list_report.specs.SharedSets.{first_sets}
use Rattle.list_report.specs.ListingObject.{body_members}
use Rattle.list_report.proofs.FirstSets.{first_read}
use Rattle.json_report.proofs.Adding.{token, part, part_of, last_of}
use Rattle.list_report.proofs.json_listing.push_listing.Goals as goal

pub returns : goal.returns
returns c =
    let v = c.args.problem.now in
    let gs = c.args.groupings.now in
    let listed = map sets_of (map (λ (g : Grouping). g.groups.items) gs) in
    let counts : sets_of c.as_slice.result.now ≡ first_sets listed =
    ap sets_of c.as_slice.ensures.value ∙ first_read gs c.index-groupings-0.result c.requires in
    (part _ c.in_ok-push_answer.ensures
    (part _ c.in_ok-push_head.ensures
    (token c.in_ok-key.ensures
    (part_of counts_tokens (first_sets listed) counts c.in_ok-push_counts.ensures
    (last_of _ (body_members v) listed (c.deref.ensures.value ∙ c.in_ok-listed.ensures)
    c.push_body.ensures))))).adds
