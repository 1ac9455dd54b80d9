use Rattle.std.proofs.lemmas.List.Splits.{join_with_byte-slice_split, length-slice_split}
use Rattle.std.proofs.Common.{◌==◌}
use Rattle.field_lines.proofs.fields.Fields.new.Goals as goal

pub returns-clause-count : goal.returns-clause-count
returns-clause-count c = length-slice_split (λ b. b == c.args.delimiter) c.args.line.now

pub returns-clause-whole : goal.returns-clause-whole
returns-clause-whole c = join_with_byte-slice_split c.args.delimiter c.args.line.now
