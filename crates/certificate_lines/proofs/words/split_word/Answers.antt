use Rattle.std.proofs.Common.{◌+◌, ◌-◌, ◌≤◌, length, drop, arith, take_all, length-drop}
use Rattle.field_lines.proofs.SplitLemmas.{split_at_found, split_at_none}
use Rattle.certificate_lines.proofs.words.split_word.Goals as goal

pub returns-in-Some : goal.returns-in-Some
returns-in-Some c =
    let xs = c.args.words.now in
    let k = c.in-Some.end in
    let short : length (drop (k + 1) xs) ≤ length xs - (k + 1) = omega (arith, length-drop (k + 1) xs) in
    rw (take_all (length xs - (k + 1)) (drop (k + 1) xs) short)
    (split_at_found 32 xs k c.in-Some.ensures)

pub returns-in-None : goal.returns-in-None
returns-in-None c = split_at_none 32 c.args.words.now c.in-None.ensures
