use Rattle.std.proofs.Common.{arith}
use Rattle.grouping_report.specs.FindingsText.{fifteen_digits}
use Rattle.grouping_report.proofs.Appends.{first, after, last}
use Rattle.grouping_report.proofs.findings.push_block.Goals as goal

pub push_five_digits-requires : goal.push_five_digits-requires
push_five_digits-requires c = omega arith

pub push_five_digits-requires-2 : goal.push_five_digits-requires-2
push_five_digits-requires-2 c = omega arith

pub push_five_digits-requires-3 : goal.push_five_digits-requires-3
push_five_digits-requires-3 c = omega arith

pub returns : goal.returns
unfolding fifteen_digits
returns c =
    let one = first c.args.out.now.items _ c.in_ok-push_five_digits.ensures in
    let two = after _ one c.in_ok-push_five_digits-2.ensures in
    last c.push_five_digits-3.result _ _ two c.push_five_digits-3.ensures
