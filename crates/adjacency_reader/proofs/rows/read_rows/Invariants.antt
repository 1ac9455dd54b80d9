use Rattle.std.proofs.Common.{◌≡◌, length}
use Rattle.field_lines.proofs.ValueLemmas.{collect_values}
use Rattle.grouping_reader.specs.Faults.{code_line_fault, code_line_cut_fault}
use Rattle.adjacency_reader.specs.Rows.{row_on, row_list}
use Rattle.adjacency_reader.proofs.RowLemmas.{lines_left}
use Rattle.adjacency_reader.proofs.rows.read_rows.Given as goal

abbrev pub invariant-loop-line : goal.invariant-loop-line
invariant-loop-line l = collect_values row_on code_line_fault code_line_cut_fault l.rows.items (lines_left l.at_first l.lines.lines) l.lines.fault ≡ row_list l.fn.bytes

abbrev pub decreases-loop-line : goal.decreases-loop-line
decreases-loop-line l = length l.lines.lines
