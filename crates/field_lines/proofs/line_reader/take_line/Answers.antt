use Rattle.std.proofs.Common.{◌≡◌, ◌≤◌, ap, ◌∙◌, arith}
use Rattle.field_lines.specs.Fault.{most_lines}
use Rattle.field_lines.specs.Cut.{line_bytes}
use Rattle.field_lines.specs.TakenPieces.{taken_bytes}
use Rattle.field_lines.proofs.ReadLineLemmas.{skips_blank, takes_line}
use Rattle.field_lines.proofs.line_reader.take_line.Goals as goal

pub returns-then-not-is_empty-clause-takes : goal.returns-then-not-is_empty-clause-takes
returns-then-not-is_empty-clause-takes g c =
    let n = c.loop-piece.number in
    let new = c.take_piece.new.pulled in
    let line : c.line_in.result.now ≡ line_bytes n (taken_bytes new c.in-Some.piece) = c.line_in.ensures.value ∙ ap (line_bytes n) c.taken.ensures in
    takes_line c.args.number.now n c.args.pulled.now c.loop-piece.pulled new _ _ _ _ _ _ c.loop-piece.invariant.skipped c.in-Some.piece (rw c.in-Some.is at c.in_ok-piece.ensures.takes) c.line_in.result.now line c.if-not-is_empty.ensures

pub loop-piece-preserved : goal.loop-piece-preserved
loop-piece-preserved g c =
    let n = c.loop-piece.number in
    let new = c.take_piece.new.pulled in
    let line : c.line_in.result.now ≡ line_bytes n (taken_bytes new c.in-Some.piece) = c.line_in.ensures.value ∙ ap (line_bytes n) c.taken.ensures in
    let few : n ≤ most_lines = rw c.in-Some.is at c.in_ok-piece.ensures.few in
    record {
      skipped = skips_blank c.args.number.now n c.args.pulled.now c.loop-piece.pulled new _ _ _ _ _ _ c.loop-piece.invariant.skipped c.in-Some.piece (rw c.in-Some.is at c.in_ok-piece.ensures.takes) c.line_in.result.now line c.if-not-is_empty.ensures;
      from = omega arith;
      from_one = omega arith;
      few = omega arith;
    }
