use Rattle.std.proofs.Common.{◌≡◌, ◌∙◌, ◌∷◌, ◌++◌, [], List, take, ap, sym, arith, take_all}
use Rattle.std.specs.List.{flat_map}
use Rattle.certificate_lines.specs.declared.item.Opening.TheVariants as opening
use Rattle.certificate_lines.specs.declared.item.Item.{Item}
use Rattle.certificate_lines.specs.declared.item.Item.TheVariants as item
use Rattle.certificate_data.specs.TreeValue.{tree_of, leaf_of}
use Rattle.certificate_text.specs.Trees.{leaf_items, items_of_tree}
use Rattle.certificate_data.specs.declared.tree.Tree.{out-Tree}
use Rattle.certificate_data.specs.declared.tree.Branch.{Branch, out-Branch}
use Rattle.certificate_data.specs.declared.tree.Take.{Take}
use Rattle.certificate_text.specs.Writing.{branch_items, take_items}
use Rattle.certificate_text.proofs.AddedLaws.{adds_after, adds_as}
use Rattle.certificate_text.proofs.Parts.{takes_are, tree_is}
use Rattle.certificate_text.proofs.lines.+push_lines.Goals as goal

pub push_branch-returns : goal.push_branch-returns
push_branch-returns t c =
    let b = out-Branch c.args.branch.now in
    let list = c.deref-take-items.result.now in
    let first = item.Opens (opening.Branch b.county b.limit) in
    let written = take c.taking.take-index list in
    let all : written ≡ b.takes.items = take_all c.taking.take-index list (omega arith) ∙ c.deref-take-items.ensures.value in
    let whole : (first ∷ flat_map take_items written) ++ item.Mark ∷ [] ≡ branch_items c.args.branch.now =
    ap (λ (l : List Item). first ∷ (l ++ item.Mark ∷ [])) (ap (λ (l : List Take). flat_map take_items l) all ∙ sym (takes_are b.takes.items)) in
    adds_as ((first ∷ flat_map take_items written) ++ item.Mark ∷ []) (branch_items c.args.branch.now) c.args.out.now.items c.push_mark_line.new.out.items c.push_mark_line.result whole
    (adds_after (first ∷ flat_map take_items written) (item.Mark ∷ []) c.args.out.now.items c.taking.out.items c.push_mark_line.new.out.items c.push_mark_line.result c.taking.invariant c.push_mark_line.ensures)

pub push_tree-returns : goal.push_tree-returns
push_tree-returns t c =
    let tree = c.args.tree.now in
    let list = c.deref-branch-items.result.now in
    let leaf = leaf_items (leaf_of (out-Tree tree).leaf) in
    let written = take c.branching.branch-index list in
    let all : written ≡ (out-Tree tree).branches.items = take_all c.branching.branch-index list (omega arith) ∙ c.deref-branch-items.ensures.value in
    let whole : flat_map branch_items written ++ leaf ≡ items_of_tree (tree_of tree) =
    ap (λ (l : List Branch). flat_map branch_items l ++ leaf) all ∙ sym (tree_is tree) in
    adds_as (flat_map branch_items written ++ leaf) (items_of_tree (tree_of tree)) c.args.out.now.items c.push_leaf.new.out.items c.push_leaf.result whole
    (adds_after (flat_map branch_items written) leaf c.args.out.now.items c.branching.out.items c.push_leaf.new.out.items c.push_leaf.result c.branching.invariant c.push_leaf.ensures)
