use Rattle.std.proofs.Common.{◌+◌, ◌-◌, ◌≤◌}
use Rattle.field_lines.specs.Fault.{most_lines}
use Rattle.field_lines.proofs.ReadLineLemmas.{SkipsBlank}
use Rattle.field_lines.proofs.line_reader.take_line.Given as goal

-- the lines so far are blank
abbrev pub invariant-loop-piece : goal.invariant-loop-piece
invariant-loop-piece g l = record {
  skipped : SkipsBlank l.fn.number l.fn.pulled (g.S.Source.given l.fn.source) (g.S.Source.is_failed l.fn.source) l.number l.pulled (g.S.Source.given l.source) (g.S.Source.is_failed l.source);
  from : l.fn.number ≤ l.number;
  from_one : 1 ≤ l.number;
  few : l.number ≤ most_lines + 1;
}

abbrev pub decreases-loop-piece : goal.decreases-loop-piece
decreases-loop-piece g l = most_lines + 1 - l.number
