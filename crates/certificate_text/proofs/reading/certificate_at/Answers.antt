use Rattle.std.proofs.Common.{◌≡◌, ◌∙◌, ◌≤◌, Ok, List, length, ap, arith}
use Rattle.std.proofs.lemmas.Result.{err_from_is_err_and}
use Rattle.certificate_data.specs.RoundValue.{target_of}
use Rattle.certificate_lines.specs.Lines.{most}
use Rattle.certificate_data.specs.TreeValue.{tree_of}
use Rattle.certificate_text.specs.Trees.{items_of_head, items_of_tree, items_of_target}
use Rattle.certificate_lines.specs.declared.item.Item.{Item}
use Rattle.certificate_lines.specs.declared.item.Item.TheVariants as item
use Rattle.certificate_lines.proofs.ReadLaws.{order_taken}
use Rattle.certificate_text.proofs.CertLaws.{refused, parts_in_turn, target_fault, tree_fault, end_fault, after_fault, certificate_read}
use Rattle.certificate_text.proofs.reading.certificate_at.Goals as goal

pub overflow_cast-as_slice : goal.overflow_cast-as_slice
overflow_cast-as_slice c =
    let few : length c.in_ok-order.order ≤ most = order_taken c.in_ok-order.order _ _ c.in_ok-order.ensures in
    let same : length c.as_slice.result.now ≡ length c.in_ok-order.order = ap length c.as_slice.ensures in
    omega (arith, few, same)

pub returns-in_err-format : goal.returns-in_err-format
returns-in_err-format c =
    let p = err_from_is_err_and c.from_residual.result c.from_residual.ensures.1 in
    rw (p.1, p.2) (refused c.args.text.now c.new-cursor.result c.new-cursor.ensures _ c.in_err-format.ensures.fault)

pub returns-in_err-target : goal.returns-in_err-target
returns-in_err-target c =
    let p = err_from_is_err_and c.from_residual-in_err-target.result c.from_residual-in_err-target.ensures.1 in
    rw (p.1, p.2)
    (target_fault c.args.text.now c.new-cursor.result c.head_at.new.cursor c.order.new.self c.limit.new.self c.new-cursor.ensures c.in_ok-format.format c.in_ok-format.tolerance c.in_ok-order.order c.in_ok-limit.limit c.in_ok-format.ensures.read c.in_ok-order.ensures c.in_ok-limit.ensures _ c.in_err-target.ensures)

pub returns-in_err-tree : goal.returns-in_err-tree
returns-in_err-tree c =
    let p = err_from_is_err_and c.from_residual-in_err-tree.result c.from_residual-in_err-tree.ensures.1 in
    let here = c.in_err-tree.ensures in
    rw (p.1, p.2)
    (tree_fault c.args.text.now c.new-cursor.result c.head_at.new.cursor c.order.new.self c.limit.new.self c.new-cursor.ensures c.in_ok-format.format c.in_ok-format.tolerance c.in_ok-order.order c.in_ok-limit.limit c.in_ok-format.ensures.read c.in_ok-order.ensures c.in_ok-limit.ensures
    (target_of c.in_ok-target.target) c.target_at.new.cursor c.in_ok-target.ensures (length c.as_slice.result.now) (ap length c.as_slice.ensures) _ here.read)

pub returns-in_err-end : goal.returns-in_err-end
returns-in_err-end c =
    let p = err_from_is_err_and c.from_residual-in_err-end.result c.from_residual-in_err-end.ensures.1 in
    let here = c.in_ok-tree.ensures in
    rw (p.1, p.2)
    (end_fault c.args.text.now c.new-cursor.result c.head_at.new.cursor c.order.new.self c.limit.new.self c.new-cursor.ensures c.in_ok-format.format c.in_ok-format.tolerance c.in_ok-order.order c.in_ok-limit.limit c.in_ok-format.ensures.read c.in_ok-order.ensures c.in_ok-limit.ensures
    (target_of c.in_ok-target.target) c.target_at.new.cursor c.in_ok-target.ensures (length c.as_slice.result.now) (ap length c.as_slice.ensures) (items_of_tree (tree_of c.in_ok-tree.tree)) c.tree_at.new.cursor here.read _ c.in_err-end.ensures)

pub returns-in_err-ended : goal.returns-in_err-ended
returns-in_err-ended c =
    let p = err_from_is_err_and c.from_residual-in_err-ended.result c.from_residual-in_err-ended.ensures.1 in
    let here = c.in_ok-tree.ensures in
    rw (p.1, p.2)
    (λ mem. after_fault c.args.text.now c.new-cursor.result c.head_at.new.cursor c.order.new.self c.limit.new.self c.new-cursor.ensures c.in_ok-format.format c.in_ok-format.tolerance c.in_ok-order.order c.in_ok-limit.limit c.in_ok-format.ensures.read c.in_ok-order.ensures c.in_ok-limit.ensures
    (target_of c.in_ok-target.target) c.target_at.new.cursor c.in_ok-target.ensures (length c.as_slice.result.now) (ap length c.as_slice.ensures) (items_of_tree (tree_of c.in_ok-tree.tree)) c.tree_at.new.cursor here.read c.end.new.self c.in_ok-end.ensures _ c.in_err-ended.ensures)

pub returns : goal.returns
returns c =
    let here = c.in_ok-tree.ensures in
    let all = parts_in_turn (items_of_head c.in_ok-format.format c.in_ok-format.tolerance) (item.Order c.in_ok-order.order) (item.Limit c.in_ok-limit.limit) (items_of_target (target_of c.in_ok-target.target)) (items_of_tree (tree_of c.in_ok-tree.tree)) in
    certificate_read c.args.text.now c.new-cursor.result c.head_at.new.cursor c.order.new.self c.limit.new.self c.new-cursor.ensures c.in_ok-format.format c.in_ok-format.tolerance c.in_ok-order.order c.in_ok-limit.limit c.in_ok-format.ensures.read c.in_ok-order.ensures c.in_ok-limit.ensures
    (target_of c.in_ok-target.target) c.target_at.new.cursor c.in_ok-target.ensures (length c.as_slice.result.now) (ap length c.as_slice.ensures) (items_of_tree (tree_of c.in_ok-tree.tree)) c.tree_at.new.cursor here.read c.end.new.self c.in_ok-end.ensures c.in_ok-ended.ensures
    ∙ ap (λ (l : List Item). Ok l) all
