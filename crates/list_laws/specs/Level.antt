-- Closed groups with the target's counts leave no county, so a search that ends with such groups makes complete leaves.
use Rattle.std.specs.Prelude.{ℕ, ◌≡◌, ◌≤◌, false, Some}
use Rattle.grouping_laws.specs.Problem.{Problem, IsProblem}
use Rattle.grouping_laws.specs.Grouping.{Grouping, counts, sets_of}
use Rattle.certificate_data.specs.Round.{Round}
use Rattle.certificate_laws.specs.State.{State, IsState}
use Rattle.certificate_laws.specs.Leaves.{IsOffSeats}
use Rattle.certificate_laws.specs.Certificate.{TargetFits}
use Rattle.list_laws.specs.Completeness.{IsFilled}

pub record LevelStatesAreFilled : Type 0 where
  -- if the closed groups have the target's counts through the limit, no county is left
  pub none_left : (p : Problem) (round : Round) (s : State) (t : Grouping) → IsProblem p → round.target ≡ Some t
      → TargetFits p round.limit round.target → IsState p round s
      → ((i : ℕ) → 1 ≤ i → i ≤ round.limit → counts s.closed i ≡ counts (sets_of t) i) → (c : ℕ) → s.rest c ≡ false
  -- if no county is left and no seats leaf is valid, the state is filled
  pub filled : (p : Problem) (round : Round) (s : State) → IsProblem p → IsState p round s
      → ((c : ℕ) → s.rest c ≡ false) → ¬ IsOffSeats p s → IsFilled p s
