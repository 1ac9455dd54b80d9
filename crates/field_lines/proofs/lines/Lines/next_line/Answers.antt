use Rattle.std.proofs.Common.{◌∙◌, ◌+◌, sym, arith}
use Rattle.field_lines.specs.RawPieces.{raw_lines_from}
use Rattle.field_lines.proofs.CutLemmas.{cut_of-line_next, cut_of-blank_next}
use Rattle.field_lines.proofs.lines.Lines.next_line.Goals as goal

pub returns-then-not-is_empty-clause-next : goal.returns-then-not-is_empty-clause-next
returns-then-not-is_empty-clause-next c =
    let n = c.loop-piece.self-inside.number in
    cut_of-line_next _ (raw_lines_from n c.loop-piece.self-inside.text.now) n c.in-Some.piece.now c.in-Some.field-0-1 (raw_lines_from (n + 1) c.in-Some.rest.now) c.line_in-line.result.now
    c.loop-piece.invariant.same (c.in-Some.ensures.cut n) (sym c.fault_at.ensures.value ∙ c.in_default-fault_at.is) c.line_in-line.ensures.value c.if-not-is_empty.ensures

pub loop-piece-preserved : goal.loop-piece-preserved
loop-piece-preserved c =
    let n = c.loop-piece.self-inside.number in
    record {
      from_one = omega arith;
      counted = omega (arith, c.in-Some.ensures.shorter);
      same = cut_of-blank_next _ (raw_lines_from n c.loop-piece.self-inside.text.now) n c.in-Some.piece.now c.in-Some.field-0-1 (raw_lines_from (n + 1) c.in-Some.rest.now) c.line_in-line.result.now
          c.loop-piece.invariant.same (c.in-Some.ensures.cut n) (sym c.fault_at.ensures.value ∙ c.in_default-fault_at.is) c.line_in-line.ensures.value c.if-not-is_empty.ensures;
    }
