-- The leaves that a search ends a state with are complete, if the target fits the limit.
use Rattle.std.proofs.Common.{◌⊎◌, inl, inr, Option, Some, None, Result, Ok, Err, IfOk, MatchOption}
use Rattle.std.specs.Prelude.{⊤}
use Rattle.grouping_laws.specs.Problem.{Problem, IsProblem}
use Rattle.certificate_data.specs.Round.{Round}
use Rattle.certificate_laws.specs.State.{State, IsState}
use Rattle.certificate_laws.specs.Leaves.{IsOffSeats}
use Rattle.certificate_laws.specs.Certificate.{TargetFits}
use Rattle.list_laws.specs.Completeness.{IsCompleteLeaf}
use Rattle.list_laws.proofs.Level.{level_states}
use Rattle.list_laws.proofs.LeafEnds.{filled_complete}
use Rattle.certificate_data.specs.declared.tree.Leaf.{Leaf as LeafHeld}
use Rattle.certificate_data.specs.TreeValue.{leaf_of}
use Rattle.search_ends.specs.GivenLeaf.{IsGivenLeaf}
use Rattle.search_ends.specs.MissingGroups.{StandsLevel}
use Rattle.branch_bound.specs.Searching.{IsEnd}

module _ (p : Problem) (round : Round) (s : State) where
  -- where no seats leaf is valid, closed groups with the target's counts fill the state
  pub leaf_complete : (leaf : LeafHeld) → IsProblem p → IsState p round s → ¬ IsOffSeats p s → IsCompleteLeaf (leaf_of leaf) p round s ⊎ StandsLevel round s → TargetFits p round.limit round.target → IsCompleteLeaf (leaf_of leaf) p round s
  leaf_complete leaf is state no_seats (inl complete) fits = complete
  leaf_complete leaf is state no_seats (inr level) fits =
      filled_complete p round s (leaf_of leaf) (λ _. level_states.filled p round s is state (level_states.none_left p round s level.0 is level.1 fits state level.2) no_seats)

  pub leaf_end_of : {E : Type 0} (r : Result (Option LeafHeld) E) → IfOk r (λ found. MatchOption found ⊤ (IsGivenLeaf p round s)) → IfOk r (λ found. MatchOption found ⊤ (λ leaf. IsCompleteLeaf (leaf_of leaf) p round s)) → IfOk r (λ found. MatchOption found ⊤ (IsEnd p round s))
  leaf_end_of (Ok None) given complete = tt
  leaf_end_of (Ok (Some leaf)) given complete = (given, λ fits. complete)
  leaf_end_of (Err f) given complete = tt
