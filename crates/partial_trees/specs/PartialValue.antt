-- The partial trees that values of the code stand for.
use Rattle.std.specs.Prelude.{List, [], ◌∷◌, Option, Some, None}
use Rattle.certificate_data.specs.TreeValue.{tree_of}
use Rattle.certificate_data.specs.declared.tree.Tree.{Tree as DeclaredTree}
use Rattle.board_laws.specs.PartialTrees.{PartialTree, open_leaf, whole, begun, PartialTakes, no_begun, take_begun}
use Rattle.partial_trees.specs.declared.tree.PartialTree.{PartialTree as Declared, PartialTree', Row_of-PartialBranch}
use Rattle.partial_trees.specs.declared.tree.PartialTree.{end_of-PartialBranch, more_of-PartialBranch}
use Rattle.partial_trees.specs.declared.tree.PartialBranch.{PartialBranch, PartialBranch', Row_of-PartialTake}
use Rattle.partial_trees.specs.declared.tree.PartialBranch.{end_of-PartialTake, more_of-PartialTake}
use Rattle.partial_trees.specs.declared.tree.PartialTake.{PartialTake, PartialTake'}

-- what stands behind the branches
abbrev pub rest_of : Option DeclaredTree → PartialTree
rest_of None = open_leaf
rest_of (Some tree) = whole (tree_of tree)

-- the partial tree of the code's type
abbrev mutual
  pub partial_of : Declared → PartialTree
  partial_of (PartialTree' shape branches rest) = begun_row branches (rest_of rest)

  pub begun_row : {m : _} → Row_of-PartialBranch m → PartialTree → PartialTree
  begun_row end_of-PartialBranch tree = tree
  begun_row (more_of-PartialBranch first rest) tree = begun_onto first (begun_row rest tree)

  pub begun_onto : PartialBranch → PartialTree → PartialTree
  begun_onto (PartialBranch' county limit shape takes) tree = begun county limit (begun_takes takes) tree

  pub begun_takes : {m : _} → Row_of-PartialTake m → PartialTakes
  begun_takes end_of-PartialTake = no_begun
  begun_takes (more_of-PartialTake first rest) = take_onto first (begun_takes rest)

  pub take_onto : PartialTake → PartialTakes → PartialTakes
  take_onto (PartialTake' codes tree) others = take_begun codes (partial_of tree) others

-- takes, from a list of them
abbrev pub list_of_begun : List PartialTake → PartialTakes
list_of_begun [] = no_begun
list_of_begun (first ∷ rest) = take_onto first (list_of_begun rest)

-- branches in front of a partial tree
abbrev pub list_onto : List PartialBranch → PartialTree → PartialTree
list_onto [] tree = tree
list_onto (first ∷ rest) tree = begun_onto first (list_onto rest tree)
