use Rattle.std.proofs.Common.{◌≡◌, List, ◌++◌, Some, ap, sym, subst, ◌∙◌, append_assoc}
use Rattle.std.specs.List.{flat_map}
use Rattle.std.proofs.lemmas.Grind.{flat_map-append}
use Rattle.certificate_lines.specs.declared.item.Item.{Item}
use Rattle.certificate_data.specs.declared.tree.Tree.{roll-Tree, out-roll-Tree}
use Rattle.certificate_data.specs.TreeValue.{leaf_of, tree_of}
use Rattle.certificate_text.specs.Trees.{leaf_items, items_of_tree}
use Rattle.certificate_text.specs.Writing.{branch_items}
use Rattle.certificate_text.proofs.Parts.{tree_is}
use Rattle.board_laws.specs.PartialTrees.{whole}
use Rattle.partial_trees.specs.OpenBranches.{BranchesAreOpen}
use Rattle.partial_trees.proofs.PartialLists.{made_tree}
use Rattle.partial_text.specs.PartItems.{items_of_part}
use Rattle.partial_text.specs.Reading.{part_branch_items}
use Rattle.partial_text.proofs.PartLists.{list_items}
use Rattle.partial_text.proofs.reading.with_leaf.Goals as goal

pub returns-clause-items : goal.returns-clause-items
returns-clause-items c =
    let tree = roll-Tree (record { branches = c.in_ok-whole_branches.field-0; leaf = c.args.leaf }) in
    let leaf = leaf_items (leaf_of c.args.leaf) in
    let inside : items_of_tree (tree_of tree) ≡ flat_map part_branch_items c.args.later.items ++ leaf =
    tree_is tree ∙ ap (λ z. flat_map branch_items z.branches.items ++ leaf_items (leaf_of z.leaf)) (out-roll-Tree (record { branches = c.in_ok-whole_branches.field-0; leaf = c.args.leaf })) ∙ ap (λ (l : List Item). l ++ leaf) c.in_ok-whole_branches.ensures.items in
    ap items_of_part (made_tree c.args.branches (Some tree)) ∙ list_items c.args.branches.items (whole (tree_of tree))
    ∙ ap (λ (l : List Item). flat_map part_branch_items c.args.branches.items ++ l) inside
    ∙ sym (append_assoc (flat_map part_branch_items c.args.branches.items) (flat_map part_branch_items c.args.later.items) leaf)
    ∙ ap (λ (l : List Item). l ++ leaf) (sym (flat_map-append part_branch_items c.args.branches.items c.args.later.items))

pub returns-clause-opened : goal.returns-clause-opened
returns-clause-opened c =
    subst BranchesAreOpen (sym (made_tree c.args.branches (Some _))) (c.requires.stay (whole _) tt)
