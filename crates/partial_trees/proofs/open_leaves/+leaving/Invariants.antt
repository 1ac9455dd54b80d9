use Rattle.std.proofs.Common.{◌≡◌, drop}
use Rattle.board_laws.specs.PartialTrees.{PartialTree, open_leaves, open_in}
use Rattle.partial_trees.specs.PartialValue.{list_of_begun, list_onto}
use Rattle.partial_trees.proofs.open_leaves.+leaving.Given as goal

abbrev pub invariant-has_open_leaf-branching : goal.invariant-has_open_leaf-branching
invariant-has_open_leaf-branching l = (rest : PartialTree) → open_leaves (list_onto l.branch-items rest) ≡ open_leaves (list_onto (drop l.branch-index l.branch-items) rest)

abbrev pub invariant-takes_are_open-taking : goal.invariant-takes_are_open-taking
invariant-takes_are_open-taking l = open_in (list_of_begun l.takes) ≡ open_in (list_of_begun (drop l.take-index l.takes))
