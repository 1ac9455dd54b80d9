use Rattle.grouping_report.proofs.Appends.{first_number, after_number, last, extended}
use Rattle.list_report.specs.Listing.{region_line}
use Rattle.list_report.proofs.texts.push_region_line.Goals as goal

pub returns : goal.returns
unfolding region_line
returns c =
    let two = after_number _ _ (first_number c.args.out.now.items _ _ c.in_ok-push_words_number.ensures) c.in_ok-push_words_number-2.ensures in
    let three = after_number _ _ two c.in_ok-push_words_number-3.ensures in
    rw (← c.as_slice-counties.ensures, ← c.as_slice-alternatives.ensures) (last c.extend_from_slice.result _ _ three (extended _ _ _ _ c.extend_from_slice.ensures.items))
