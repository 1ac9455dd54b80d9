use Rattle.field_lines.proofs.TextLemmas.{numbers-ascend}
use Rattle.field_lines.proofs.lines.Lines.new.Goals as goal

pub returns-clause-ascending : goal.returns-clause-ascending
returns-clause-ascending c = numbers-ascend 1 c.args.text.now
