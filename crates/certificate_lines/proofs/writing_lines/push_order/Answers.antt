use Rattle.std.proofs.Common.{codes}
use Rattle.certificate_lines.proofs.WordsWritten.{codes_line}
use Rattle.certificate_lines.proofs.writing_lines.push_order.Goals as goal

pub returns : goal.returns
returns c = rw (codes_line (codes "order") c.args.order.now) c.push_codes_line.ensures.text
