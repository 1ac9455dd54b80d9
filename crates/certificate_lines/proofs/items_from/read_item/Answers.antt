use Rattle.std.proofs.Common.{◌+◌, ◌∷◌, reverse, Option, Some, Result, Ok, Err, ◌∙◌, ap, sym, subst}
use Rattle.field_lines.specs.TextPiece.{raw_of}
use Rattle.field_lines.specs.PiecesFrom.{IsRawRead}
use Rattle.field_lines.specs.declared.raw_pieces.TextPiece.{TextPiece}
use Rattle.field_lines.specs.declared.fault.LineFault.{LineFault}
use Rattle.certificate_lines.specs.ItemsLeft.{left_at, ReadsItem}
use Rattle.certificate_lines.specs.declared.fault.TextFault.{TextFault}
use Rattle.certificate_lines.proofs.StackLaws.{taken_bounded}
use Rattle.certificate_lines.proofs.ReaderLaws.{raw_next, read_found, read_off}
use Rattle.certificate_lines.proofs.items_from.read_item.Goals as goal

pub returns-in-Ok-clause-read : goal.returns-in-Ok-clause-read
returns-in-Ok-clause-read g c =
    let old = c.args.pieces.now in
    let new = c.next_piece.follows.lender-at-none in
    let before = g.S.Source.given c.args.from.now in
    let after = g.S.Source.given c.next_piece.new.source in
    let failed = g.S.Source.is_failed c.args.from.now in
    let failed_then = g.S.Source.is_failed c.next_piece.new.source in
    let p = c.in-Ok-Some.piece in
    let raw = subst (λ (a : Result (Option TextPiece) LineFault). IsRawRead old before failed a new after failed_then)
    (c.in-Ok-Some.is ∙ ap (λ (o : Option TextPiece). Ok o) c.in-Ok-Some.field-0-is) c.next_piece.follows.holds-at-none in
    read_found old new before after failed failed_then c.args.wanted c.args.stack.now.items c.args.line p (raw_next old new before after failed failed_then (Ok (Some p)) raw c.requires.sound).0 c.in-Ok.item c.item_at.new.stack.items (c.in-Ok.ensures.read p.number) c.in-Ok.ensures.stacked

pub returns-in-Ok-clause-bounded : goal.returns-in-Ok-clause-bounded
returns-in-Ok-clause-bounded g c =
    taken_bounded c.args.wanted (raw_of c.in-Ok-Some.piece) c.in-Ok.item c.args.stack.now.items c.item_at.new.stack.items (c.in-Ok.ensures.read c.in-Ok-Some.piece.number) c.in-Ok.ensures.stacked c.requires.room c.requires.bounded

pub returns-in-Err-clause-read : goal.returns-in-Err-clause-read
returns-in-Err-clause-read g c =
    let old = c.args.pieces.now in
    let new = c.next_piece.follows.lender-at-none in
    let before = g.S.Source.given c.args.from.now in
    let after = g.S.Source.given c.next_piece.new.source in
    let failed = g.S.Source.is_failed c.args.from.now in
    let failed_then = g.S.Source.is_failed c.next_piece.new.source in
    let raw = subst (λ (a : Result (Option TextPiece) LineFault). IsRawRead old before failed a new after failed_then) c.in-Err.is c.next_piece.follows.holds-at-none in
    subst (λ (f : TextFault). ReadsItem (left_at (c.args.wanted ∷ reverse c.args.stack.now.items) c.args.line old) before (Err f) (left_at (reverse c.args.stack.now.items) (c.args.line + 1) new) after) (sym c.fault_of_reader.ensures)
    (read_off old new before after failed failed_then c.args.wanted c.args.stack.now.items c.args.line c.in-Err.fault (raw_next old new before after failed failed_then (Err c.in-Err.fault) raw c.requires.sound).0 (reverse c.args.stack.now.items) (c.args.line + 1))
