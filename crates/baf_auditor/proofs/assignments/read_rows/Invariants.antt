use Rattle.std.proofs.Common.{◌≡◌, ◌≤◌, length, vec_len}
use Rattle.baf_auditor.specs.Assignments.{rows_after}
use Rattle.baf_auditor.proofs.RowLemmas.{collect_rows}
use Rattle.baf_auditor.proofs.assignments.read_rows.Given as goal

abbrev pub invariant-loop-number : goal.invariant-loop-number
invariant-loop-number l = record {
  rows : collect_rows l.delimiter l.assignments.items l.lines.lines l.lines.fault ≡ rows_after l.fn.delimiter l.fn.assignments.items l.fn.lines.lines l.fn.lines.fault;
  few : vec_len l.assignments ≤ 4000000;
}

abbrev pub decreases-loop-number : goal.decreases-loop-number
decreases-loop-number l = length l.lines.lines
