use Rattle.field_lines.specs.Cut.{cut}
use Rattle.field_lines.proofs.ValueLemmas.{collected}
use Rattle.grouping_reader.specs.Faults.{code_line_fault, code_line_cut_fault}
use Rattle.adjacency_reader.specs.WithdrawnSets.{set_on}
use Rattle.adjacency_reader.proofs.sets.read_withdrawn.Goals as goal

pub loop-number-init : goal.loop-number-init
loop-number-init c = rw (c.new-sets.ensures.items, c.new-lines.ensures.lines) (collected set_on code_line_fault code_line_cut_fault (cut c.args.bytes.now).lines (cut c.args.bytes.now).fault)
