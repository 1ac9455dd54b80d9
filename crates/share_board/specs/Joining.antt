-- What is left to join of a partial tree behind its branches.
use Rattle.std.specs.Prelude.{◌≡◌, ℕ, ◌+◌, List, option_map}
use Rattle.certificate_data.specs.declared.tree.Branch.{Branch}
use Rattle.certificate_data.proofs.TreeLists.{list_onto}
use Rattle.board_laws.specs.Skeleton.{Skeleton, joined}
use Rattle.board_laws.specs.PartialTrees.{open_leaves}
use Rattle.partial_trees.specs.PartialValue.{partial_of, rest_of}
use Rattle.partial_trees.specs.declared.tree.PartialTree.{PartialTree, out-PartialTree}
use Rattle.share_board.specs.declared.piece.Fate.{Fate}
use Rattle.share_board.specs.HeldSkeleton.{Shows}

-- the branches of the part stand behind the old ones, and behind them, at the next place, what stands behind the
-- branches in the part
pub record JoinsBehind (fates : List Fate) (part : PartialTree) (at : ℕ) (old new : List Branch)
    (skeleton : Skeleton) (next : ℕ) : Type 0 where
  pub rest : Skeleton
  pub shows : Shows fates (rest_of (out-PartialTree part).rest) next rest
  pub joins : option_map (list_onto old) (joined skeleton) ≡ option_map (list_onto new) (joined rest)
  pub place : next + open_leaves (rest_of (out-PartialTree part).rest) ≡ at + open_leaves (partial_of part)
