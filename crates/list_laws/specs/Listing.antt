-- What complete proof trees and complete certificates show: their ends are the sets of all groupings with the target's
-- counts.
use Rattle.std.specs.Prelude.{ℕ, ◌≡◌, ◌≤◌, List, AllPairs, Contains, Some}
use Rattle.std.specs.List.{AllZip}
use Rattle.grouping_laws.specs.Problem.{Problem}
use Rattle.grouping_laws.specs.Grouping.{Grouping, Lawful, counts, sets_of, IsGreater}
use Rattle.grouping_laws.specs.GroupsFrom.{IsOrder}
use Rattle.certificate_data.specs.Round.{Round}
use Rattle.certificate_laws.specs.State.{State, IsState, empty_state}
use Rattle.certificate_laws.specs.Agreement.{Agrees}
use Rattle.certificate_data.specs.Tree.{Tree}
use Rattle.certificate_laws.specs.Proving.{Proves}
use Rattle.certificate_laws.specs.Certificate.{TargetFits, IsCertificate}
use Rattle.list_laws.specs.AllBest.{SameSets, AreAllBest}
use Rattle.list_laws.specs.Ends.{ends}
use Rattle.list_laws.specs.Completeness.{IsComplete}

-- The lists of sets are those of all lawful groupings that agree with the state and are not lesser than the target.
pub record ListsAll (p : Problem) (s : State) (t : Grouping) (lists : List (List (List ℕ))) : Type 0 where
  -- each lawful grouping that agrees and is not lesser than the target has the sets of one of the lists
  pub all : (g : Grouping) → Lawful p g → Agrees s g → ¬ IsGreater (counts (sets_of t)) (counts (sets_of g))
      → (k : List (List ℕ)) × Contains lists k × SameSets (sets_of g) k
  -- for each of the lists, some lawful grouping has its sets
  pub some : (k : List (List ℕ)) → Contains lists k → (g : Grouping) × Lawful p g × SameSets (sets_of g) k
  -- each lawful grouping with the sets of one of the lists agrees with the state and has the target's counts
  pub each : (k : List (List ℕ)) → Contains lists k → (g : Grouping) → Lawful p g → SameSets (sets_of g) k
      → Agrees s g × ((i : ℕ) → 1 ≤ i → counts (sets_of g) i ≡ counts (sets_of t) i)
  -- no two of the lists are the same
  pub apart : AllPairs (λ j k. ¬ SameSets j k) lists

-- If a proof tree is complete at a state, its ends are the sets of all lawful groupings that agree with the state and
-- are not lesser than the target.
abbrev pub CompleteTreesList : Type 0
CompleteTreesList =
    (p : Problem) (round : Round) (s : State) (tree : Tree) (t : Grouping)
    → IsOrder p round.order → round.target ≡ Some t → TargetFits p round.limit round.target → IsState p round s
    → Proves tree p round s → IsComplete tree p round s
    → ListsAll p s t (ends tree p round s)

-- the groupings are lawful, and have these sets, in turn
abbrev pub HaveSets : Problem → List Grouping → List (List (List ℕ)) → Type 0
HaveSets p list lists = AllZip (λ g k. Lawful p g × SameSets (sets_of g) k) list lists

-- If a certificate with a target is complete, there are lawful groupings with the sets of its ends. Lawful groupings
-- that have these sets in turn are all best groupings.
pub record CompleteCertificatesList : Type 0 where
  pub some : (p : Problem) (round : Round) (tree : Tree) (t : Grouping) → round.target ≡ Some t
      → IsCertificate p round tree → IsComplete tree p round (empty_state p)
      → (list : List Grouping) × HaveSets p list (ends tree p round (empty_state p))
  pub all : (p : Problem) (round : Round) (tree : Tree) (t : Grouping) → round.target ≡ Some t
      → IsCertificate p round tree → IsComplete tree p round (empty_state p)
      → (list : List Grouping) → HaveSets p list (ends tree p round (empty_state p)) → AreAllBest p list
