use Rattle.std.proofs.Common.{sym, subst}
use Rattle.certificate_lines.specs.ItemReadings.{HasItem}
use Rattle.certificate_lines.proofs.line_items.item_at.Goals as goal

pub returns-in-Head-clause-read : goal.returns-in-Head-clause-read
returns-in-Head-clause-read c = subst (λ w. HasItem w c.args.bytes.now c.args.ended c.head_item.result) (sym c.in-Head.is) c.head_item.ensures.read

pub returns-in-Tolerance-clause-read : goal.returns-in-Tolerance-clause-read
returns-in-Tolerance-clause-read c = subst (λ w. HasItem w c.args.bytes.now c.args.ended c.tolerance_item.result) (sym c.in-Tolerance.is) c.tolerance_item.ensures.read

pub returns-in-Order-clause-read : goal.returns-in-Order-clause-read
returns-in-Order-clause-read c = subst (λ w. HasItem w c.args.bytes.now c.args.ended c.order_item.result) (sym c.in-Order.is) c.order_item.ensures.read

pub returns-in-Limit-clause-read : goal.returns-in-Limit-clause-read
returns-in-Limit-clause-read c = subst (λ w. HasItem w c.args.bytes.now c.args.ended c.limit_item.result) (sym c.in-Limit.is) c.limit_item.ensures.read

pub returns-in-Target-clause-read : goal.returns-in-Target-clause-read
returns-in-Target-clause-read c = subst (λ w. HasItem w c.args.bytes.now c.args.ended c.target_item.result) (sym c.in-Target.is) c.target_item.ensures.read

pub returns-in-Groups-clause-read : goal.returns-in-Groups-clause-read
returns-in-Groups-clause-read c = subst (λ w. HasItem w c.args.bytes.now c.args.ended c.group_item.result) (sym c.in-Groups.is) c.group_item.ensures.read

pub returns-in-Tree-clause-read : goal.returns-in-Tree-clause-read
returns-in-Tree-clause-read c = subst (λ w. HasItem w c.args.bytes.now c.args.ended c.opening_item.result) (sym c.in-Tree.is) c.opening_item.ensures.read

pub returns-in-Takes-clause-read : goal.returns-in-Takes-clause-read
returns-in-Takes-clause-read c = subst (λ w. HasItem w c.args.bytes.now c.args.ended c.take_item.result) (sym c.in-Takes.is) c.take_item.ensures.read

pub returns-in-Part-clause-read : goal.returns-in-Part-clause-read
returns-in-Part-clause-read c = subst (λ w. HasItem w c.args.bytes.now c.args.ended c.part_item.result) (sym c.in-Part.is) c.part_item.ensures.read

pub returns-in-PartTakes-clause-read : goal.returns-in-PartTakes-clause-read
returns-in-PartTakes-clause-read c = subst (λ w. HasItem w c.args.bytes.now c.args.ended c.part_take_item.result) (sym c.in-PartTakes.is) c.part_take_item.ensures.read

pub returns-in-Allowances-clause-read : goal.returns-in-Allowances-clause-read
returns-in-Allowances-clause-read c = subst (λ w. HasItem w c.args.bytes.now c.args.ended c.allowance_item.result) (sym c.in-Allowances.is) c.allowance_item.ensures.read

pub returns-in-End-clause-read : goal.returns-in-End-clause-read
returns-in-End-clause-read c = subst (λ w. HasItem w c.args.bytes.now c.args.ended c.end_item.result) (sym c.in-End.is) c.end_item.ensures.read
