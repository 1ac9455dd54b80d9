use Rattle.std.proofs.Common.{◌≡◌, ◌≤◌, take, true, false}
use Rattle.board_laws.specs.PartialTrees.{PartialTree, open_leaves}
use Rattle.partial_trees.specs.PartialValue.{partial_of, list_of_begun, list_onto}
use Rattle.partial_trees.specs.OpenBranches.{BranchesAreOpen, BranchesOfTakesAreOpen}
use Rattle.partial_trees.proofs.PartialLists.{deep, deep_in}
use Rattle.partial_text.specs.Reading.{StayOpen, StayOpenBefore}
use Rattle.partial_text.proofs.opened.+opened.Given as goal

abbrev pub decreases-takes_are_open : goal.decreases-takes_are_open
decreases-takes_are_open l = deep_in (list_of_begun l.takes.now)

abbrev pub decreases-branches_are_open : goal.decreases-branches_are_open
decreases-branches_are_open l = deep (partial_of l.part.now)

abbrev pub invariant-takes_are_open-taking : goal.invariant-takes_are_open-taking
invariant-takes_are_open-taking l = BranchesOfTakesAreOpen (list_of_begun (take l.take-index l.takes))

abbrev pub invariant-branches_are_open-branching : goal.invariant-branches_are_open-branching
invariant-branches_are_open-branching l = record {
  before : StayOpenBefore (take l.branch-index l.branch-items);
  some : l.in_takes ≡ true → StayOpen (take l.branch-index l.branch-items);
  none : l.in_takes ≡ false → (t : PartialTree) → BranchesAreOpen (list_onto (take l.branch-index l.branch-items) t) → 1 ≤ open_leaves t;
}
