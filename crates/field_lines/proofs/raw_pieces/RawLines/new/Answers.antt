use Rattle.field_lines.proofs.TextLemmas.{text_of-raw_lines}
use Rattle.field_lines.proofs.raw_pieces.RawLines.new.Goals as goal

pub returns-clause-whole : goal.returns-clause-whole
returns-clause-whole c = text_of-raw_lines 1 c.args.text.now
