use Rattle.std.proofs.Common.{◌≡◌, ◌++◌, drop}
use Rattle.certificate_data.proofs.copies.copy_lines.Given as goal

abbrev pub invariant-loop-line : goal.invariant-loop-line
invariant-loop-line l = l.copies.items ++ drop l.line-index l.lines ≡ l.lines
