use Rattle.std.proofs.Common.{List, map, take, ap, arith, take_all}
use Rattle.certificate_data.specs.declared.allowance.Allowance.{Allowance}
use Rattle.certificate_lines.specs.declared.item.Item.TheVariants as item
use Rattle.certificate_text.proofs.AddedLaws.{added_none, added_as, item_added}
use Rattle.certificate_text.proofs.lines.push_allowances.Goals as goal

pub loop-allowance-init : goal.loop-allowance-init
loop-allowance-init c = added_none c.args.out.now.items

pub loop-allowance-preserved : goal.loop-allowance-preserved
loop-allowance-preserved c =
    item_added item.Allows c.args.allowances.now c.loop-allowance.allowance-index c.allowance-item.result c.args.out.now.items c.loop-allowance.out.items c.push_allowance.new.out.items c.allowance-item.is c.loop-allowance-test.true c.loop-allowance.invariant c.in_ok-push_allowance.ensures

pub returns : goal.returns
returns c =
    added_as (map item.Allows (take c.loop-allowance.allowance-index c.args.allowances.now)) (map item.Allows c.args.allowances.now) c.args.out.now.items c.loop-allowance.out.items
    (ap (λ (l : List Allowance). map item.Allows l) (take_all c.loop-allowance.allowance-index c.args.allowances.now (omega arith))) c.loop-allowance.invariant
