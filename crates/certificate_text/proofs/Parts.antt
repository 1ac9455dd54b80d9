-- The items of a tree, as its parts have them.
use Rattle.std.proofs.Common.{◌≡◌, List, ◌++◌, ap, ◌∙◌}
use Rattle.std.specs.List.{flat_map}
use Rattle.certificate_lines.specs.declared.item.Item.{Item}
use Rattle.certificate_data.specs.TreeValue.{leaf_of, tree_of, list_of_takes}
use Rattle.certificate_text.specs.Trees.{leaf_items, items_of_tree, items_of_takes}
use Rattle.certificate_data.specs.declared.tree.Tree.{Tree, out-Tree}
use Rattle.certificate_data.specs.declared.tree.Take.{Take}
use Rattle.certificate_text.proofs.TreeViews.{items_of_branch, items_of_take}
use Rattle.certificate_text.proofs.TreeFits.{take_parts, branch_parts, takes_flat, tree_parts}
use Rattle.certificate_text.specs.Writing.{branch_items, take_items}
use Rattle.certificate_text.proofs.AddedLaws.{flat_same}

pub takes_are : (ts : List Take) → items_of_takes (list_of_takes ts) ≡ flat_map take_items ts
takes_are ts = takes_flat ts ∙ flat_same items_of_take take_items take_parts ts

pub tree_is : (t : Tree) → items_of_tree (tree_of t) ≡ flat_map branch_items (out-Tree t).branches.items ++ leaf_items (leaf_of (out-Tree t).leaf)
tree_is t = tree_parts t ∙ ap (λ (l : List Item). l ++ leaf_items (leaf_of (out-Tree t).leaf)) (flat_same items_of_branch branch_items branch_parts (out-Tree t).branches.items)
