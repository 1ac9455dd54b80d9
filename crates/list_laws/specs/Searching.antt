-- A search ends with a complete proof tree or with a greater grouping, so nothing is lost by asking for complete trees.
use Rattle.std.specs.Prelude.{ℕ, ◌≡◌, List, Some, ◌⊎◌}
use Rattle.grouping_laws.specs.Problem.{Problem, IsProblem}
use Rattle.grouping_laws.specs.Grouping.{Grouping}
use Rattle.certificate_data.specs.Round.{Round}
use Rattle.certificate_laws.specs.State.{State, IsState}
use Rattle.certificate_laws.specs.Fitting.{NoGroupFits}
use Rattle.certificate_laws.specs.Leaves.{IsStuck, IsOffSeats}
use Rattle.certificate_data.specs.Tree.{Tree}
use Rattle.certificate_laws.specs.Proving.{Proves, CanBranch}
use Rattle.certificate_laws.specs.Groups.{AreGroupsAt}
use Rattle.certificate_laws.specs.Certificate.{TargetFits}
use Rattle.certificate_laws.specs.Search.{IsFound}
use Rattle.list_laws.specs.Completeness.{IsComplete}

-- a complete proof tree, or a lawful grouping that agrees with the state and is greater than the target
abbrev pub CompleteOutcome : Problem → Round → State → Type 0
CompleteOutcome p round s =
    ((tree : Tree) × Proves tree p round s × IsComplete tree p round s) ⊎ ((g : Grouping) × IsFound p round s g)

-- Whoever finds stuck and seats leaves, chooses a branch or sees that no group fits, and lists the groups at a county,
-- has a complete proof tree or a greater grouping at every state.
abbrev pub CompleteSearchEnds : Type 0
CompleteSearchEnds =
    (p : Problem) (round : Round) (t : Grouping) → IsProblem p → round.target ≡ Some t
    → TargetFits p round.limit round.target
    → ((s : State) → IsState p round s → ((c : ℕ) × IsStuck p s c) ⊎ ((c : ℕ) → ¬ IsStuck p s c))
    → ((s : State) → IsState p round s → IsOffSeats p s ⊎ (¬ IsOffSeats p s))
    → ((s : State) → IsState p round s → ((c : ℕ) × (j : ℕ) × CanBranch round s c j) ⊎ NoGroupFits p round s)
    → ((s : State) (c j : ℕ) → IsState p round s → CanBranch round s c j
    → (groups : List (List ℕ)) × AreGroupsAt p round s c j groups)
    → (s : State) → IsState p round s → CompleteOutcome p round s
