use Rattle.std.proofs.Common.{arith}
use Rattle.json_report.proofs.TextLemmas.{text_of_digits}
use Rattle.json_report.proofs.parts.code_digits.Goals as goal

pub returns-clause-text : goal.returns-clause-text
returns-clause-text c = text_of_digits c.get-number.result (omega arith)
