use Rattle.grouping_report.specs.FirstLines.{named_line}
use Rattle.grouping_report.proofs.Appends.{first_number, after_number, last, extended}
use Rattle.grouping_report.proofs.first_lines.push_named.Goals as goal

pub returns : goal.returns
unfolding named_line
returns c =
    let one = first_number c.args.out.now.items _ _ c.in_ok-push_words_number.ensures in
    let two = after_number _ _ one c.in_ok-push_words_number-2.ensures in
    rw (← c.from.ensures, ← c.from-2.ensures) (last c.extend_from_slice.result _ _ two (extended _ _ _ _ c.extend_from_slice.ensures.items))
