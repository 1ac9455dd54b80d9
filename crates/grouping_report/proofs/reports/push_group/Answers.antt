use Rattle.grouping_report.specs.Report.{group_line}
use Rattle.grouping_report.proofs.Appends.{first_number, after_number, after, last, extended}
use Rattle.grouping_report.proofs.reports.push_group.Goals as goal

pub returns : goal.returns
unfolding group_line
returns c =
    let one = first_number c.args.out.now.items _ _ c.in_ok-push_words_number.ensures in
    let two = after_number _ _ one c.in_ok-push_words_number-2.ensures in
    let three = after_number _ _ two c.in_ok-push_words_number-3.ensures in
    let four = after _ three c.in_ok-extend_from_slice.ensures.items in
    let five = after _ four c.in_ok-push_codes.ensures.text in
    rw (← c.from.ensures, ← c.as_slice.ensures) (last c.extend_from_slice-2.result _ _ five (extended _ _ _ _ c.extend_from_slice-2.ensures.items))
