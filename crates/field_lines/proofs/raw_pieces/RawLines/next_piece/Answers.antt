use Rattle.std.proofs.Common.{◌∙◌, sym}
use Rattle.field_lines.proofs.raw_pieces.RawLines.next_piece.Goals as goal

pub returns : goal.returns
returns c = sym c.self.view_is ∙ c.in_ok-bytes.ensures.cut c.self.inside.number
