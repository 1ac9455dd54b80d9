use Rattle.grouping_report.proofs.Appends.{first_number, after, after_number, last}
use Rattle.list_report.specs.Listing.{shared_text}
use Rattle.list_report.proofs.texts.push_shared.Goals as goal

pub returns : goal.returns
unfolding shared_text
returns c =
    let one = first_number c.args.out.now.items _ _ c.in_ok-push_words_number.ensures in
    let two = after_number _ _ one c.in_ok-push_words_number-2.ensures in
    let three = after _ two c.in_ok-extend_from_slice.ensures.items in
    last c.push_lines.result _ _ three c.push_lines.ensures
