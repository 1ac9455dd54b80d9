use Rattle.baf_auditor.proofs.RowLemmas.{collected}
use Rattle.baf_auditor.proofs.assignments.read_rows.Goals as goal

pub loop-number-init : goal.loop-number-init
loop-number-init c = record {
  rows = collected c.args.delimiter c.args.lines.fault c.args.lines.lines c.args.assignments.items;
  few = c.requires;
}
