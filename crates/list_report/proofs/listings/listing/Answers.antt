use Rattle.std.proofs.Common.{◌≡◌, ◌∙◌, ◌++◌, ℕ, List, map, ap, codes}
use Rattle.grouping_report.proofs.Appends.{first, after}
use Rattle.county_codes.specs.declared.group.Grouping.{Grouping}
use Rattle.grouping_laws.specs.Grouping.{sets_of}
use Rattle.grouping_report.specs.Report.{head_lines, answer_line, counts_line}
use Rattle.list_report.specs.SharedSets.{first_sets}
use Rattle.list_report.specs.Listing.{body_text}
use Rattle.list_report.proofs.FirstSets.{first_read}
use Rattle.list_report.proofs.listings.listing.Goals as goal

pub returns : goal.returns
returns c =
    let v = c.args.problem.now in
    let gs = c.args.groupings.now in
    let listed = map sets_of (map (λ (g : Grouping). g.groups.items) gs) in
    let head = head_lines v ++ answer_line (codes "all") in
    let one = first c.new-out.result.items _ c.in_ok-push_head.ensures in
    let two = after _ one c.in_ok-push_answer.ensures in
    let three = after _ two c.in_ok-push_counts.ensures in
    let four = after _ three c.in_ok-push_body.ensures in
    let counts : sets_of c.as_slice.result.now ≡ first_sets listed = ap sets_of c.as_slice.ensures.value ∙ first_read gs c.index-groupings-0.result c.requires in
    four.is
    ∙ (ap (λ (l : List ℕ). l ++ (head ++ counts_line (sets_of c.as_slice.result.now) ++ body_text v c.deref.result.now)) c.new-out.ensures.items
    ∙ (ap (λ (s : List (List ℕ)). head ++ counts_line s ++ body_text v c.deref.result.now) counts
    ∙ ap (λ (l : List (List (List ℕ))). head ++ counts_line (first_sets listed) ++ body_text v l) (c.deref.ensures.value ∙ c.in_ok-listed.ensures)))
