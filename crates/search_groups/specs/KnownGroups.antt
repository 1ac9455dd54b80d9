-- What a search knows of the groups at a state: one list of groups of one size, which is filtered as the search goes
-- on.
use Rattle.std.specs.Prelude.{ℕ, ◌+◌, ◌≡◌, ◌≤◌, ◌<◌, Bool, true, false, List, [], length}
use Rattle.std.specs.Prelude.{Contains, AllPairs, ◌↔◌}
use Rattle.grouping_laws.specs.Sets.{contains}
use Rattle.grouping_laws.specs.Problem.{Problem, IsProblem}
use Rattle.grouping_laws.specs.GroupsFrom.{IsOrder, IsBefore}
use Rattle.certificate_data.specs.declared.format.Format.TheVariants.{Wide}
use Rattle.certificate_data.specs.Round.{Round}
use Rattle.certificate_laws.specs.State.{State, IsState, close, raise}
use Rattle.certificate_laws.specs.Fitting.{Fits, IsLive}
use Rattle.certificate_laws.specs.Groups.{IsGroupOf, AreGroupsOf, AreGroupsAt}
use Rattle.certificate_laws.specs.Proving.{CanBranch}
use Rattle.state_groups.specs.PlacedValues.{codes_of_set}
pub use Rattle.state_judge.specs.Candidates.{IsCandidateGroup, AreCandidates}

-- no group of fewer than i counties fits, and these are candidates of i counties, among them all that fit, sorted by
-- lists of places
pub record IsKnown (p : Problem) (round : Round) (s : State) (i : ℕ) (groups : List (List ℕ)) : Type 0 where
  pub none_below : (g : List ℕ) → Fits round.format p s g → length g < i → ⊥
  pub each : (g : List ℕ) → Contains groups g → IsCandidateGroup p round s i g
  pub all : (g : List ℕ) → IsGroupOf p round s i g → Contains groups g
  pub sorted : AllPairs (IsBefore round.order) groups

-- the groups of the first list that have a property, in turn
pub record AreThose (order : List ℕ) (Is : List ℕ → Type 0) (groups those : List (List ℕ)) : Type 0 where
  pub each : (g : List ℕ) → Contains those g ↔ (Contains groups g × Is g)
  pub in_turn : AllPairs (IsBefore order) groups → AllPairs (IsBefore order) those

-- the group has no county of the other
abbrev pub IsApart : List ℕ → List ℕ → Type 0
IsApart k g = (c : ℕ) → contains g c ≡ true → contains k c ≡ false

-- the group lacks the county, or has it
abbrev pub Lacks : ℕ → List ℕ → Type 0
Lacks c g = contains g c ≡ false

abbrev pub Has : ℕ → List ℕ → Type 0
Has c g = contains g c ≡ true

-- for each set with places of the order alone a test with these answers says what this says of its codes
abbrev pub Tells : {C : Type 0} → List ℕ → (C → ℕ → Bool) → (C → Bool → Type 0) → (List ℕ → Bool) → Type 0
Tells {C} order test Returns keeps = (set : C) (answer : Bool) → ((x : ℕ) → test set x ≡ true → x < length order)
    → Returns set answer → answer ≡ keeps (codes_of_set order test set)

-- what is known goes from size to size and from state to state, and gives the groups that fit
pub record KnownServes : Type 0 where
  -- at first, of size 0, there is nothing to know
  pub first : (p : Problem) (round : Round) (s : State) → IsKnown p round s 0 []
  -- where no candidate is left, the groups that fit of the next size are known
  pub next : (p : Problem) (round : Round) (s : State) (i : ℕ) (groups : List (List ℕ)) → IsOrder p round.order
      → IsKnown p round s i [] → AreGroupsOf p round s (i + 1) groups → IsKnown p round s (i + 1) groups
  -- where a group is closed, the candidates apart from it stay
  pub closed : (p : Problem) (round : Round) (s : State) (i : ℕ) (k : List ℕ) (groups those : List (List ℕ))
      → IsProblem p → IsState p round s → Fits round.format p s k → IsKnown p round s i groups
      → AreThose round.order (IsApart k) groups those → IsKnown p round (close k s) i those
  -- where a county is raised past the size, those that lack it stay
  pub raised : (p : Problem) (round : Round) (s : State) (i c : ℕ) (groups those : List (List ℕ)) → s.least c ≤ i + 1
      → IsKnown p round s i groups → AreThose round.order (Lacks c) groups those → IsKnown p round (raise c i s) i those
  -- in a wide round the live ones are the groups of the size that fit, and they are known too
  pub live : (p : Problem) (round : Round) (s : State) (i : ℕ) (groups those : List (List ℕ)) → round.format ≡ Wide
      → IsKnown p round s i groups → AreThose round.order (IsLive p s) groups those
      → AreGroupsOf p round s i those × IsKnown p round s i those
  -- the live ones of those that have a county are the takes of a branch at it
  pub takes : (p : Problem) (round : Round) (s : State) (i c : ℕ) (groups those found : List (List ℕ))
      → round.format ≡ Wide → IsKnown p round s i groups → AreThose round.order (Has c) groups those
      → AreThose round.order (IsLive p s) those found → AreGroupsAt p round s c i found
  -- in a wide round one may branch at each county of a candidate
  pub can : (p : Problem) (round : Round) (s : State) (i c : ℕ) (g : List ℕ) → round.format ≡ Wide → i ≤ round.limit
      → IsCandidateGroup p round s i g → contains g c ≡ true → CanBranch round s c i
