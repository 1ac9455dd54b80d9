use Rattle.std.proofs.Common.{◌∙◌, List, length, ap}
use Rattle.county_codes.specs.declared.county.County.{County}
use Rattle.grouping_report.specs.FirstLines.{first_lines}
use Rattle.grouping_report.specs.Report.{head_lines}
use Rattle.grouping_report.proofs.Appends.{first, after_number_of, last, extended}
use Rattle.grouping_report.proofs.reports.push_head.Goals as goal

pub returns : goal.returns
unfolding head_lines
returns c =
    let v = c.args.problem.now in
    let one = first c.args.out.now.items (first_lines v) c.in_ok-push_first_lines.ensures in
    let two = after_number_of _ v.seats_left (c.from.ensures ∙ c.seats_left.ensures.value) one c.in_ok-push_words_number.ensures in
    let three = after_number_of _ (length v.counties) (ap (λ (l : List County). length l) c.counties.ensures.value) two c.in_ok-push_words_number-2.ensures in
    last c.extend_from_slice.result _ _ three (extended _ _ _ _ c.extend_from_slice.ensures.items)
