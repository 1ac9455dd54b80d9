use Rattle.field_lines.specs.Cut.{cut}
use Rattle.field_lines.proofs.ValueLemmas.{collected}
use Rattle.grouping_reader.specs.Faults.{code_line_fault, code_line_cut_fault}
use Rattle.adjacency_reader.specs.Rows.{row_on, without_header}
use Rattle.adjacency_reader.proofs.rows.read_rows.Goals as goal

pub loop-line-init : goal.loop-line-init
loop-line-init c = rw (c.new-rows.ensures.items, c.new-lines.ensures.lines) (collected row_on code_line_fault code_line_cut_fault (without_header (cut c.args.bytes.now).lines) (cut c.args.bytes.now).fault)
