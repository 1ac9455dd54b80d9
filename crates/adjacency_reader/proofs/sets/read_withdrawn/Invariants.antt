use Rattle.std.proofs.Common.{◌≡◌, length}
use Rattle.field_lines.proofs.ValueLemmas.{collect_values}
use Rattle.grouping_reader.specs.Faults.{code_line_fault, code_line_cut_fault}
use Rattle.adjacency_reader.specs.WithdrawnSets.{set_on, withdrawn_list}
use Rattle.adjacency_reader.proofs.sets.read_withdrawn.Given as goal

abbrev pub invariant-loop-number : goal.invariant-loop-number
invariant-loop-number l = collect_values set_on code_line_fault code_line_cut_fault l.sets.items l.lines.lines l.lines.fault ≡ withdrawn_list l.fn.bytes

abbrev pub decreases-loop-number : goal.decreases-loop-number
decreases-loop-number l = length l.lines.lines
