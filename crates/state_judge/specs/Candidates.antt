-- The groups of one size that a line's weights are tested on: all that fit, and maybe others that are lawful.
use Rattle.std.specs.Prelude.{ℕ, ◌≡◌, Bool, List, length, filter, Option, Contains, AllPairs, MatchOption, ⊤}
use Rattle.std.specs.Borrow.{Bor}
use Rattle.grouping_laws.specs.Sets.{contains, Inside}
use Rattle.grouping_laws.specs.Problem.{Problem, LawfulGroup}
use Rattle.grouping_laws.specs.GroupsFrom.{IsBefore}
use Rattle.connected_laws.specs.Listing.{AreBelow}
use Rattle.certificate_data.specs.Round.{Round}
use Rattle.certificate_laws.specs.State.{State, open_to}
use Rattle.certificate_laws.specs.Groups.{IsGroupOf}
use Rattle.state_groups.specs.PlacedValues.{codes_of_sets}

-- A lawful group of i counties, each of them open to a group of i, its codes in the order of places. It fits the state
-- where it is kept: in a wide round it may be dead.
pub record IsCandidateGroup (p : Problem) (round : Round) (s : State) (i : ℕ) (g : List ℕ) : Type 0 where
  pub lawful : LawfulGroup p g
  pub inside : Inside (open_to s i) g
  pub in_order : filter (contains g) round.order ≡ g
  pub size : length g ≡ i

-- these are candidates of i counties, among them all that fit, sorted by lists of places
pub record AreCandidates (p : Problem) (round : Round) (s : State) (i : ℕ) (groups : List (List ℕ)) : Type 0 where
  pub each : (g : List ℕ) → Contains groups g → IsCandidateGroup p round s i g
  pub all : (g : List ℕ) → IsGroupOf p round s i g → Contains groups g
  pub sorted : AllPairs (IsBefore round.order) groups

-- the sets have places of the order alone, and their codes are candidates
pub record AreCandidateSets {C : Type 0} (test : C → ℕ → Bool) (order : List ℕ) (p : Problem) (round : Round)
    (s : State) (i : ℕ) (sets : List C) : Type 0 where
  pub below : AreBelow (length order) test sets
  pub are : AreCandidates p round s i (codes_of_sets order test sets)

-- if sets are listed, they are candidates
abbrev pub AreListed : {C : Type 0} → (C → ℕ → Bool) → List ℕ → Problem → Round → State → ℕ
    → Option (Bor (List C)) → Type 0
AreListed test order p round s i listed =
    MatchOption listed ⊤ (λ sets. AreCandidateSets test order p round s i sets.now)
