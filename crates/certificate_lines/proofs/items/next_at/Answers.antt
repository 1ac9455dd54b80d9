use Rattle.field_lines.specs.RawPieces.{RawLine}
use Rattle.certificate_lines.proofs.StackLaws.{top_room, rest_bounded, taken_bounded}
use Rattle.certificate_lines.proofs.items.next_at.Goals as goal

pub returns-in-Ok-clause-bounded : goal.returns-in-Ok-clause-bounded
returns-in-Ok-clause-bounded c =
    let old = c.args.stack.now.items in
    let below = c.pop.new.self.items in
    let top = c.in-Some.wanted in
    let piece : RawLine = record { number = 0; bytes = c.in-Some-next_piece.bytes.now; ended = c.in-Some-next_piece.ended } in
    taken_bounded top piece c.in-Ok.item below c.item_at.new.stack.items (c.in-Ok.ensures.read 0) c.in-Ok.ensures.stacked (top_room old below top c.in-Some.ensures.items c.requires) (rest_bounded old below top c.in-Some.ensures.items c.requires)
