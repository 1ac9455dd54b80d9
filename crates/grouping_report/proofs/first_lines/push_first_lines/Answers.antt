use Rattle.std.proofs.Common.{◌∙◌}
use Rattle.grouping_report.specs.FirstLines.{first_lines}
use Rattle.grouping_report.proofs.Appends.{first_number_of, after_number_of, after, last}
use Rattle.grouping_report.proofs.first_lines.push_first_lines.Goals as goal

pub returns : goal.returns
unfolding first_lines
returns c =
    let v = c.args.problem.now in
    let one = first_number_of c.args.out.now.items _ v.total_people c.total_people.ensures.value c.in_ok-push_words_number.ensures in
    let two = after_number_of _ v.chamber (c.from.ensures ∙ c.chamber.ensures.value) one c.in_ok-push_words_number-2.ensures in
    let three = after _ two c.in_ok-extend_from_slice.ensures.items in
    rw (← c.named_tolerance.ensures.value) (last c.push_tolerance.result _ _ three c.push_tolerance.ensures)
