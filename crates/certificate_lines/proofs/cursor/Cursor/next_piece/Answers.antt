use Rattle.std.proofs.Common.{refl}
use Rattle.certificate_lines.proofs.TextLaws.{piece_whole}
use Rattle.certificate_lines.proofs.cursor.Cursor.next_piece.Goals as goal

pub returns : goal.returns
returns c =
    let cut = c.in_ok-bytes.ensures.cut c.self.inside.number in
    rw (← c.self.view_is) (cut, refl, piece_whole c.self.inside.number _ _ _ _ cut, c.in_ok-bytes.ensures.shorter)
