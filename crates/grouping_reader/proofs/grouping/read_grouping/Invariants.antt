use Rattle.std.proofs.Common.{◌≡◌, length}
use Rattle.field_lines.proofs.ValueLemmas.{collect_values}
use Rattle.grouping_reader.specs.Faults.{code_line_fault, code_line_cut_fault}
use Rattle.grouping_reader.specs.GroupingLines.{group_on, grouping_list}
use Rattle.grouping_reader.proofs.grouping.read_grouping.Given as goal

abbrev pub invariant-loop-number : goal.invariant-loop-number
invariant-loop-number l = collect_values group_on code_line_fault code_line_cut_fault l.groups.items l.lines.lines l.lines.fault ≡ grouping_list l.fn.bytes

abbrev pub decreases-loop-number : goal.decreases-loop-number
decreases-loop-number l = length l.lines.lines
