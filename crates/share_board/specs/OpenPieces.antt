-- Which pieces of a board wait.
use Rattle.std.specs.Prelude.{ℕ, ◌+◌, cond, List, [], ◌∷◌, Contains, ◌↔◌}
use Rattle.std.specs.List.Sorted.{IsStrictlyIncreasing}
use Rattle.board_laws.specs.Skeleton.{Skeleton, waiting}
use Rattle.share_board.specs.declared.piece.Fate.{Fate}
use Rattle.share_board.specs.HeldSkeleton.{is_waiting}

-- the numbers of the pieces that wait, ascending
pub record AreOpen (skeleton : Skeleton) (found : List ℕ) : Type 0 where
  pub ascending : IsStrictlyIncreasing found
  pub each : (n : ℕ) → Contains found n ↔ Contains (waiting skeleton) n

-- the numbers of those that wait in a list whose first piece has this number
abbrev pub numbers : ℕ → List Fate → List ℕ
numbers first [] = []
numbers first (fate ∷ fates) = cond (is_waiting fate) (first ∷ numbers (first + 1) fates) (numbers (first + 1) fates)
