-- Laws of what is told: it leads back to the state, it has a text, and branches lead to states that may be told.
use Rattle.std.specs.Prelude.{ℕ, ◌≡◌, ◌≤◌, List, All, length}
use Rattle.grouping_laws.specs.Problem.{Problem}
use Rattle.grouping_laws.specs.GroupsFrom.{IsOrder}
use Rattle.certificate_data.specs.Round.{Round}
use Rattle.certificate_laws.specs.State.{State, IsState, empty_state, close, raise}
use Rattle.certificate_laws.specs.Groups.{IsGroupAt}
use Rattle.certificate_laws.specs.Proving.{CanBranch}
use Rattle.certificate_lines.specs.Lines.{most}
use Rattle.piece_states.specs.Told.{told_of, state_told}
use Rattle.piece_states.specs.RoundStates.{IsTold}
use Rattle.piece_states.specs.TextLines.{greatest, greatest_size}
use Rattle.piece_states.specs.Reading.{HasText}

-- a state of a round is the one that is told of it by the round's order
abbrev pub StatesAreTold : Type 0
StatesAreTold =
    (p : Problem) (round : Round) (s : State) → IsOrder p round.order → IsState p round s
    → state_told p (told_of round.order s) ≡ s

-- what is told of a state of a round has a text, if codes have five digits and no size is above the greatest
abbrev pub StatesHaveTexts : Type 0
StatesHaveTexts =
    (p : Problem) (round : Round) (s : State) (number piece : ℕ) → IsOrder p round.order → IsState p round s
    → All (λ c. c ≤ 99999) round.order → length round.order ≤ most → ((c : ℕ) → s.least c ≤ greatest_size)
    → number ≤ greatest → piece ≤ greatest
    → HasText (record { round = number; piece = piece; told = told_of round.order s })

-- What is told of a state to which branches lead is a state of the round: at the beginning, where a group is closed,
-- and where a county is raised.
pub record BranchesKeepTold : Type 0 where
  pub first : (p : Problem) (round : Round) → IsTold p round.order round (told_of round.order (empty_state p))
  pub closed : (p : Problem) (round : Round) (s : State) (c j : ℕ) (g : List ℕ) → IsState p round s
      → CanBranch round s c j → IsGroupAt p round s c j g → IsTold p round.order round (told_of round.order s)
      → IsTold p round.order round (told_of round.order (close g s))
  pub raised : (p : Problem) (round : Round) (s : State) (c j : ℕ) → IsState p round s → CanBranch round s c j
      → IsTold p round.order round (told_of round.order s)
      → IsTold p round.order round (told_of round.order (raise c j s))
