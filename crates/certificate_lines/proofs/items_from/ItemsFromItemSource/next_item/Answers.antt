use Rattle.std.proofs.Common.{reverse, Some, subst}
use Rattle.certificate_lines.specs.ItemsLeft.{left_at, left_of_reader, unless_found, IsNextItemOf}
use Rattle.certificate_lines.proofs.ReaderLaws.{next_fault, next_found}
use Rattle.certificate_lines.proofs.items_from.ItemsFromItemSource.next_item.Goals as goal

pub returns-in-Err : goal.returns-in-Err
returns-in-Err g c =
    let s = c.self.inside in
    let n = c.next_read-next.new in
    let new = left_at (reverse n.stack.items) n.line n.pieces in
    let before = g.S.Source.given c.args.from.now in
    let after = g.S.Source.given n.from in
    subst (λ h. IsNextItemOf (left_of_reader h) before c.next_read-next.result (unless_found new (Some c.in-Err.fault)) after) c.self.view_is
    (next_fault (left_at (reverse s.wanted.items) s.line s.pieces) new before after s.fault c.in_default.is c.next_read-next.result c.next_read-next.ensures.next c.in-Err.fault c.in-Err.is)

pub returns-in_default-next : goal.returns-in_default-next
returns-in_default-next g c =
    let s = c.self.inside in
    let n = c.next_read-next.new in
    let new = left_at (reverse n.stack.items) n.line n.pieces in
    let before = g.S.Source.given c.args.from.now in
    let after = g.S.Source.given n.from in
    subst (λ h. IsNextItemOf (left_of_reader h) before c.next_read-next.result (unless_found new s.fault) after) c.self.view_is
    (next_found (left_at (reverse s.wanted.items) s.line s.pieces) new before after s.fault c.in_default.is c.next_read-next.result c.next_read-next.ensures.next c.in_default-next.field-0 c.in_default-next.is)
