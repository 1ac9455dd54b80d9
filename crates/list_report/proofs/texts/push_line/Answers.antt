use Rattle.grouping_report.proofs.Appends.{first, after, after_number, last, extended}
use Rattle.list_report.specs.Listing.{set_line}
use Rattle.list_report.proofs.texts.push_line.Goals as goal

pub returns : goal.returns
unfolding set_line
returns c =
    let one = first c.args.out.now.items _ c.in_ok-extend_from_slice.ensures.items in
    let two = after _ one c.in_ok-push_seats.ensures in
    let three = after_number _ _ two c.in_ok-push_words_number.ensures in
    let four = after _ three c.in_ok-extend_from_slice-2.ensures.items in
    let five = after _ four c.in_ok-push_codes.ensures.text in
    last c.extend_from_slice-3.result _ _ five (extended _ _ _ _ c.extend_from_slice-3.ensures.items)
