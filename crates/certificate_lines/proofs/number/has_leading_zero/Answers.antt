use Rattle.certificate_lines.proofs.WordLaws.{zero_before, nothing_before}
use Rattle.certificate_lines.proofs.number.has_leading_zero.Goals as goal

pub returns-then-word-gt1 : goal.returns-then-word-gt1
returns-then-word-gt1 c = zero_before c.args.word.now c.if-word-gt1.true

pub returns-else-word-gt1 : goal.returns-else-word-gt1
returns-else-word-gt1 c = nothing_before c.args.word.now c.if-word-gt1.false
