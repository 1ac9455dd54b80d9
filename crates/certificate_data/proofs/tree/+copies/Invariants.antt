use Rattle.std.proofs.Common.{◌≡◌, take}
use Rattle.certificate_data.specs.Tree.{Tree, Takes}
use Rattle.certificate_data.proofs.TreeLists.{list_onto}
use Rattle.certificate_data.proofs.CopyLaws.{takes_onto}
use Rattle.certificate_data.proofs.tree.+copies.Given as goal

abbrev pub invariant-Branch::copy-loop-take : goal.invariant-Branch::copy-loop-take
invariant-Branch::copy-loop-take l = (others : Takes) → takes_onto l.takes.items others ≡ takes_onto (take l.take-index l.take-items) others

abbrev pub invariant-Tree::copy-loop-branch : goal.invariant-Tree::copy-loop-branch
invariant-Tree::copy-loop-branch l = (raised : Tree) → list_onto l.branches.items raised ≡ list_onto (take l.branch-index l.branch-items) raised
