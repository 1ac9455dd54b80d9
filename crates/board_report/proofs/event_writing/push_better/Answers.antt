use Rattle.std.proofs.Common.{◌≤◌, ◌++◌, ℕ, codes, decimal, length, ap, ◌∙◌, arith}
use Rattle.certificate_lines.specs.Lines.{most}
use Rattle.board_report.specs.EventLines.{greatest}
use Rattle.board_report.proofs.Written.{better_written}
use Rattle.board_report.proofs.event_writing.push_better.Goals as goal

pub returns : goal.returns
returns c format counties =
    let old = c.args.out.now.items in
    let few : length c.args.groups.now ≤ most = omega (arith, c.if-groups.false) in
    let small : c.args.round ≤ greatest = omega (arith, c.ranges.round.fits) in
    better_written format counties c.args.round c.args.groups.now small few old c.push_words_number.new.out.items c.push_number_line.new.out.items
    (c.in_ok-push_words_number.ensures ∙ ap (λ (n : ℕ). old ++ (codes "better " ++ decimal n)) c.from.ensures) c.in_ok-push_number_line.ensures c.push_groups.new.out.items c.push_groups.result c.push_groups.ensures
