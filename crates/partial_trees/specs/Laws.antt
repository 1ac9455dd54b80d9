-- Laws of parts: what a board does with one (`board_laws`) and which states are told of it go together.
use Rattle.std.specs.Prelude.{ℕ, ◌+◌, ◌≡◌, ◌<◌, length, get_or}
use Rattle.certificate_data.specs.Round.{Round}
use Rattle.certificate_laws.specs.State.{State}
use Rattle.board_laws.specs.Standing.{StandsAt}
use Rattle.board_laws.specs.PartialTrees.{PartialTree, open_leaves, skeleton_from}
use Rattle.partial_trees.specs.OpenStates.{open_states}

pub record PartsStand : Type 0 where
  -- there is a state for each open leaf
  pub number : (tree : PartialTree) (round : Round) (s : State) → length (open_states tree round s) ≡ open_leaves tree
  -- the pieces have the numbers from the first one on, and each stands at the state of its open leaf
  pub stands : (first n : ℕ) (tree : PartialTree) (round : Round) (s t : State)
      → StandsAt (skeleton_from first tree) round s n t
      → (k : ℕ) × (n ≡ first + k) × (k < open_leaves tree)
      × ((other : State) → get_or (open_states tree round s) k other ≡ t)
