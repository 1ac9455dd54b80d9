use Rattle.std.proofs.Common.{arith}
use Rattle.field_lines.proofs.NumberLemmas.{reads_digits}
use Rattle.field_lines.proofs.number.digits.Goals as goal

pub returns : goal.returns
returns c =
    let reads = reads_digits c.args.count c.args.field.now c.number_up_to.result (omega arith) c.requires c.number_up_to.ensures in
    record { value = reads.value; small = reads.small }
