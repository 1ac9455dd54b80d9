-- Partial trees in which each branch that was begun has an open leaf, so that a tree without one stands as a whole.
use Rattle.std.specs.Prelude.{◌≤◌, ⊤}
use Rattle.board_laws.specs.PartialTrees.{PartialTree, open_leaf, whole, begun, PartialTakes, no_begun, take_begun}
use Rattle.board_laws.specs.PartialTrees.{open_leaves}

-- each branch has an open leaf in its takes or behind it
abbrev mutual
  pub BranchesAreOpen : PartialTree → Type 0
  BranchesAreOpen open_leaf = ⊤
  BranchesAreOpen (whole tree) = ⊤
  BranchesAreOpen (begun county limit takes raised) =
      (1 ≤ open_leaves (begun county limit takes raised)) × BranchesOfTakesAreOpen takes × BranchesAreOpen raised

  pub BranchesOfTakesAreOpen : PartialTakes → Type 0
  BranchesOfTakesAreOpen no_begun = ⊤
  BranchesOfTakesAreOpen (take_begun codes tree others) = BranchesAreOpen tree × BranchesOfTakesAreOpen others
