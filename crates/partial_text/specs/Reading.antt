-- Branches and takes that are read, before it is known whether an open leaf follows.
use Rattle.std.specs.Prelude.{◌≡◌, ◌≤◌, List, [], ◌∷◌, ◌++◌, All}
use Rattle.certificate_lines.specs.declared.item.Opening.TheVariants as opening
use Rattle.certificate_lines.specs.declared.item.Item.{Item}
use Rattle.certificate_lines.specs.declared.item.Item.TheVariants as item
use Rattle.certificate_data.specs.Tree.{Tree}
use Rattle.board_laws.specs.PartialTrees.{PartialTree, PartialTakes, whole, open_leaves}
use Rattle.partial_trees.specs.declared.tree.PartialBranch.{PartialBranch, out-PartialBranch}
use Rattle.partial_trees.specs.declared.tree.PartialTake.{PartialTake, out-PartialTake}
use Rattle.partial_trees.specs.PartialValue.{partial_of, list_of_begun, list_onto}
use Rattle.partial_trees.specs.OpenBranches.{BranchesAreOpen}
use Rattle.partial_text.specs.PartItems.{items_of_part, items_of_begun}

-- the tree of a take, and the takes of a branch
abbrev pub tree_in : PartialTake → PartialTree
tree_in t = partial_of (out-PartialTake t).tree

abbrev pub takes_in : PartialBranch → PartialTakes
takes_in b = list_of_begun (out-PartialBranch b).takes.items

-- the items of a branch up to its mark, and of a take
abbrev pub part_branch_items : PartialBranch → List Item
part_branch_items b =
    item.Opens (opening.Branch (out-PartialBranch b).county (out-PartialBranch b).limit)
    ∷ (items_of_begun (takes_in b) ++ item.Mark ∷ [])

abbrev pub part_take_items : PartialTake → List Item
part_take_items t = item.Takes (out-PartialTake t).codes ∷ items_of_part (tree_in t)

-- the tree of the take is whole
abbrev pub IsWholeTake : PartialTake → Type 0
IsWholeTake t = (tree : Tree) × (tree_in t ≡ whole tree)

-- so is each tree in the takes of the branch
abbrev pub IsWholeBranch : PartialBranch → Type 0
IsWholeBranch b = All IsWholeTake (out-PartialBranch b).takes.items

-- the branches have an open leaf in their takes, or one behind them that also has one
abbrev pub StayOpen : List PartialBranch → Type 0
StayOpen branches = (t : PartialTree) → BranchesAreOpen t → BranchesAreOpen (list_onto branches t)

-- the branches are open where an open leaf stands behind them
abbrev pub StayOpenBefore : List PartialBranch → Type 0
StayOpenBefore branches = (t : PartialTree) → BranchesAreOpen t → 1 ≤ open_leaves t
    → BranchesAreOpen (list_onto branches t) × (1 ≤ open_leaves (list_onto branches t))
