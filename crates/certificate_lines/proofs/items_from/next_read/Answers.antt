use Rattle.std.proofs.Common.{◌+◌, Err, reverse, sym, subst}
use Rattle.certificate_lines.specs.ItemsLeft.{left_at, ReadsNext}
use Rattle.certificate_lines.proofs.ReadLaws.{stacked_one}
use Rattle.certificate_lines.proofs.items_from.next_read.Goals as goal

pub returns-in-Err-clause-next : goal.returns-in-Err-clause-next
returns-in-Err-clause-next g c =
    let n = c.read_item.new in
    subst (λ w. ReadsNext (left_at w c.args.line.now c.args.pieces.now) (g.S.Source.given c.args.from.now) (Err c.in-Err.fault) (left_at (reverse n.stack.items) (c.args.line.now + 1) n.pieces) (g.S.Source.given n.from))
    (sym (stacked_one c.pop.new.self.items c.args.stack.now.items c.in-Some.wanted c.in-Some.ensures.items)) c.in-Err.ensures.read
