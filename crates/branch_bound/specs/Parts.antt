-- Partial trees of what a search has proved when its steps run out.
use Rattle.std.specs.Prelude.{◌≤◌, List, [], ◌∷◌}
use Rattle.grouping_laws.specs.Problem.{Problem}
use Rattle.certificate_data.specs.Round.{Round}
use Rattle.certificate_data.specs.Tree.{Takes, no_take, take}
use Rattle.certificate_data.specs.TreeValue.{takes_of}
use Rattle.certificate_data.specs.declared.tree.Branch.{Branch, Branch'}
use Rattle.certificate_laws.specs.State.{State}
use Rattle.board_laws.specs.PartialTrees.{PartialTree, whole, begun, PartialTakes, no_begun, take_begun, open_leaves}
use Rattle.partial_trees.specs.Refusals.{IsPartProof}
use Rattle.partial_trees.specs.OpenBranches.{BranchesAreOpen}

-- takes with their whole trees, and others behind them
abbrev pub whole_takes : Takes → PartialTakes → PartialTakes
whole_takes no_take others = others
whole_takes (take codes tree rest) others = take_begun codes (whole tree) (whole_takes rest others)

-- a branch whose takes have whole trees
abbrev pub whole_branch : Branch → PartialTree → PartialTree
whole_branch (Branch' county limit shape takes) raised = begun county limit (whole_takes (takes_of takes) no_begun) raised

-- such branches, and a partial tree behind them
abbrev pub whole_branches : List Branch → PartialTree → PartialTree
whole_branches [] part = part
whole_branches (first ∷ rest) part = whole_branch first (whole_branches rest part)

-- texts spell it, it proves the state but for its open leaves, there is one, and each of its branches has one
pub record IsOpenPart (p : Problem) (round : Round) (s : State) (part : PartialTree) : Type 0 where
  pub proof : IsPartProof p round s part
  pub some : 1 ≤ open_leaves part
  pub branches : BranchesAreOpen part
