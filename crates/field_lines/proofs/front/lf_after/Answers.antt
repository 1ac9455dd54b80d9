use Rattle.std.proofs.Common.{◌≡◌, ◌-◌, ◌≤◌, None, length, drop, take_all, length-drop, arith, rules}
use Rattle.field_lines.proofs.PulledLemmas.{no_lf, lf_found}
use Rattle.field_lines.proofs.front.lf_after.Goals as goal

pub returns-in_err-place : goal.returns-in_err-place
returns-in_err-place c =
    let xs = c.args.bytes.now in
    let short : length (drop c.args.from xs) ≤ length xs - c.args.from = omega (arith, length-drop c.args.from xs) in
    let is : c.from_residual.result ≡ None = search rules in
    rw is (no_lf xs c.args.from c.requires.none (rw (take_all (length xs - c.args.from) (drop c.args.from xs) short) at c.in_err-place.ensures))

pub returns : goal.returns
returns c =
    let xs = c.args.bytes.now in
    let short : length (drop c.args.from xs) ≤ length xs - c.args.from = omega (arith, length-drop c.args.from xs) in
    lf_found xs c.args.from c.requires.none c.in_ok-place.place c.requires.within (rw (take_all (length xs - c.args.from) (drop c.args.from xs) short) at c.in_ok-place.ensures)
