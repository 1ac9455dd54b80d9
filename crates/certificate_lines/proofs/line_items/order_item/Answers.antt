use Rattle.std.proofs.Common.{◌≡◌, ◌≤◌, length, ap, sym, arith}
use Rattle.certificate_lines.specs.Lines.{most}
use Rattle.certificate_lines.specs.declared.item.Wanted.TheVariants as want
use Rattle.certificate_lines.proofs.FormLaws.{order_few}
use Rattle.certificate_lines.proofs.ReadLaws.{stacked_four}
use Rattle.certificate_lines.proofs.line_items.order_item.Goals as goal

pub overflow_cast-levels : goal.overflow_cast-levels
overflow_cast-levels c =
    let few : length c.in_ok-order.order ≤ most = order_few c.in_ok-words.words c.in_ok-order.order c.in_ok-order.ensures in
    let same : length c.as_slice.result.now ≡ length c.in_ok-order.order = ap length c.as_slice.ensures in
    omega (arith, few, same)

pub returns-clause-stacked : goal.returns-clause-stacked
returns-clause-stacked c =
    let format = c.args.format in
    let order = c.in_ok-order.order in
    let same : length c.as_slice.result.now ≡ length order = ap length c.as_slice.ensures in
    rw (sym same) (stacked_four c.args.stack.now.items c.want_after_order.new.stack.items want.End (want.Tree format (length c.as_slice.result.now)) want.Target want.Limit c.want_after_order.ensures)
