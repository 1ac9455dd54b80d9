use Rattle.std.proofs.Common.{◌+◌, ◌*◌, ◌≤◌}
use Rattle.worked_calls.proofs.certificates.generated_trees.Dice.+made.Given as goal

abbrev pub decreases-branch : goal.decreases-branch
decreases-branch l = 2 * l.levels + 1

abbrev pub decreases-tree : goal.decreases-tree
decreases-tree l = 2 * l.levels

abbrev pub invariant-tree-loop-left : goal.invariant-tree-loop-left
invariant-tree-loop-left l = l.left ≤ l.levels

abbrev pub decreases-tree-loop-left : goal.decreases-tree-loop-left
decreases-tree-loop-left l = l.left
