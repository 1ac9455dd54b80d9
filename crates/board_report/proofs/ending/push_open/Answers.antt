use Rattle.grouping_report.proofs.Appends.{first_number, last}
use Rattle.board_report.proofs.ending.push_open.Goals as goal

pub returns : goal.returns
returns c =
    let one = first_number c.args.out.now.items _ _ c.in_ok-push_words_number.ensures in
    rw (← c.from.ensures) (last c.push_number_line.result _ _ one c.push_number_line.ensures)
