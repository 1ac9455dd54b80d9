use Rattle.std.proofs.Common.{decimal}
use Rattle.certificate_lines.proofs.WordsWritten.{codes_line}
use Rattle.certificate_lines.proofs.writing_lines.push_group_line.Goals as goal

pub returns : goal.returns
returns c = rw (codes_line (decimal c.args.group.now.seats) c.args.group.now.codes, ← c.as_slice.ensures) c.push_number_and_codes_line.ensures.text
