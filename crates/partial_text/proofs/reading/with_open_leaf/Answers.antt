use Rattle.std.proofs.Common.{List, [], ◌∷◌, ◌++◌, None, ap, sym, subst, ◌∙◌}
use Rattle.std.specs.List.{flat_map}
use Rattle.certificate_lines.specs.declared.item.Item.TheVariants as item
use Rattle.board_laws.specs.PartialTrees.{open_leaf}
use Rattle.partial_trees.specs.declared.tree.PartialBranch.{PartialBranch}
use Rattle.partial_trees.specs.PartialValue.{list_onto}
use Rattle.partial_trees.specs.OpenBranches.{BranchesAreOpen}
use Rattle.partial_trees.proofs.PartialLists.{made_tree}
use Rattle.partial_text.specs.PartItems.{items_of_part}
use Rattle.partial_text.specs.Reading.{part_branch_items}
use Rattle.partial_text.proofs.PartLists.{list_items, open_behind}
use Rattle.partial_text.proofs.reading.with_open_leaf.Goals as goal

pub returns-clause-items : goal.returns-clause-items
returns-clause-items c =
    ap items_of_part (made_tree c.push_all.new.branches None) ∙ list_items c.push_all.new.branches.items open_leaf
    ∙ ap (λ (l : List PartialBranch). flat_map part_branch_items l ++ item.Open ∷ []) c.in_ok-push_all.ensures.pushed

pub returns-clause-opened : goal.returns-clause-opened
returns-clause-opened c =
    subst BranchesAreOpen (sym (made_tree c.push_all.new.branches None ∙ ap (λ (l : List PartialBranch). list_onto l open_leaf) c.in_ok-push_all.ensures.pushed))
    (open_behind c.args.branches.items c.args.later.items c.requires.stay c.requires.before)
