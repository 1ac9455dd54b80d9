use Rattle.std.proofs.Common.{◌≡◌, IfOk, subst}
use Rattle.board_laws.specs.PartialTrees.{PartialTree}
use Rattle.partial_trees.specs.PartialValue.{partial_of}
use Rattle.partial_trees.specs.declared.tree.PartialTree.{PartialTree as PartialTreeHeld}
use Rattle.branch_bound.specs.declared.outcome.SearchOutcome.TheVariants as outcome
use Rattle.branch_bound.specs.Parts.{whole_branches}
use Rattle.branch_bound.proofs.parts.stopped_here.Goals as goal

pub returns : goal.returns
returns c = subst (λ (z : PartialTree). IfOk c.stopped_behind.result (λ found. (joined : PartialTreeHeld) × (found ≡ outcome.Open joined) × (partial_of joined ≡ whole_branches c.args.branches.items z))) c.open_part.ensures c.stopped_behind.ensures
