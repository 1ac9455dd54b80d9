use Rattle.grouping_report.proofs.Appends.{first_number, after, last}
use Rattle.board_report.proofs.ending.push_left.Goals as goal

pub returns : goal.returns
returns c =
    let one = first_number c.args.out.now.items _ _ c.in_ok-push_words_number.ensures in
    let two = after _ one c.in_ok-extend_from_slice.ensures.items in
    last c.push_which.result _ _ two c.push_which.ensures
