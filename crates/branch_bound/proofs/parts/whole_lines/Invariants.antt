use Rattle.std.proofs.Common.{◌≡◌}
use Rattle.board_laws.specs.PartialTrees.{PartialTree}
use Rattle.partial_trees.specs.PartialValue.{list_onto}
use Rattle.branch_bound.specs.Parts.{whole_branches}
use Rattle.branch_bound.proofs.parts.whole_lines.Given as goal

abbrev pub invariant-loop-branch : goal.invariant-loop-branch
invariant-loop-branch l = record {
  can : (goal.iterator-loop-branch).can_next l.branch-iterator;
  finite : (goal.iterator-loop-branch).is_finite l.branch-iterator;
  lines : (part : PartialTree) → list_onto l.parts.items part ≡ whole_branches l.yielded part;
}
