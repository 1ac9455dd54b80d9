use Rattle.std.proofs.Common.{◌≡◌, length}
use Rattle.field_lines.proofs.ValueLemmas.{collect_values}
use Rattle.grouping_reader.specs.Faults.{code_line_fault, code_line_cut_fault}
use Rattle.adjacency_reader.specs.Links.{link_on, link_list}
use Rattle.adjacency_reader.proofs.links.read_links.Given as goal

abbrev pub invariant-loop-number : goal.invariant-loop-number
invariant-loop-number l = collect_values link_on code_line_fault code_line_cut_fault l.links.items l.lines.lines l.lines.fault ≡ link_list l.fn.bytes

abbrev pub decreases-loop-number : goal.decreases-loop-number
decreases-loop-number l = length l.lines.lines
