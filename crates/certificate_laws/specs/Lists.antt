-- Lists of groups by size, and how a search keeps them.
use Rattle.std.specs.Prelude.{ℕ, zero, suc, ◌≡◌, ◌≤◌, ◌<◌, Bool, true, List, [], filter, ◌++◌, length, AllPairs}
use Rattle.std.specs.Prelude.{Contains, ◌↔◌}
use Rattle.grouping_laws.specs.Sets.{contains}
use Rattle.grouping_laws.specs.Problem.{Problem}
use Rattle.grouping_laws.specs.GroupsFrom.{IsOrder, IsBefore}
use Rattle.certificate_data.specs.declared.format.Format.TheVariants.{Wide}
use Rattle.certificate_data.specs.Round.{Round}
use Rattle.certificate_laws.specs.State.{State}
use Rattle.certificate_laws.specs.Fitting.{Fits, NoGroupFits}
use Rattle.certificate_laws.specs.Proving.{CanBranch}
use Rattle.certificate_laws.specs.Groups.{IsGroupOf, AreGroupsOf, AreGroupsAt, IsSetAt, IsSetWithin}
use Rattle.certificate_laws.specs.Branching.{Narrows}

-- the lists for sizes 1 through n, one after another
abbrev pub up_to : ℕ → (ℕ → List (List ℕ)) → List (List ℕ)
up_to zero lists = []
up_to (suc n) lists = up_to n lists ++ lists (suc n)

-- lists for the sizes from 1 through n
abbrev pub AreLists : Problem → Round → State → ℕ → (ℕ → List (List ℕ)) → Type 0
AreLists p round s n lists = (i : ℕ) → 1 ≤ i → i ≤ n → AreGroupsOf p round s i (lists i)

-- A search that keeps a list of groups for each size has all that a branch and an end need.
pub record ListsServe : Type 0 where
  -- the sets looked through that pass a test of fitting, sorted, are the groups
  pub kept_at : (p : Problem) (round : Round) (s : State) (c j : ℕ) (keep : List ℕ → Bool) (groups : List (List ℕ))
      → ((g : List ℕ) → Contains groups g ↔ (IsSetAt p round.order s c j g × (keep g ≡ true)))
      → AllPairs (IsBefore round.order) groups
      → ((g : List ℕ) → IsSetAt p round.order s c j g → (keep g ≡ true) ↔ Fits round.format p s g)
      → AreGroupsAt p round s c j groups
  pub kept_of : (p : Problem) (round : Round) (s : State) (i : ℕ) (keep : List ℕ → Bool) (groups : List (List ℕ))
      → ((g : List ℕ) → Contains groups g ↔ (IsSetWithin p round.order s i g × (keep g ≡ true)))
      → AllPairs (IsBefore round.order) groups
      → ((g : List ℕ) → IsSetWithin p round.order s i g → (keep g ≡ true)
      ↔ (Fits round.format p s g × (length g ≡ i))) → AreGroupsOf p round s i groups
  -- at a state into which no other groups fit, a list is what is left of the old one when the groups that don't fit any
  -- more are dropped
  pub narrower_at : (p : Problem) (round : Round) (s t : State) (c j k : ℕ) (groups : List (List ℕ)) (keep : List ℕ
      → Bool) → Narrows round.format p s t → k ≤ j
      → ((g : List ℕ) → Contains groups g → (keep g ≡ true) ↔ (Fits round.format p t g × (length g ≤ k)))
      → AreGroupsAt p round s c j groups → AreGroupsAt p round t c k (filter keep groups)
  pub narrower_of : (p : Problem) (round : Round) (s t : State) (i : ℕ) (groups : List (List ℕ)) (keep : List ℕ → Bool)
      → Narrows round.format p s t
      → ((g : List ℕ) → Contains groups g → (keep g ≡ true) ↔ Fits round.format p t g)
      → AreGroupsOf p round s i groups → AreGroupsOf p round t i (filter keep groups)
  -- the takes of a branch are the groups of the lists that have the county
  pub takes : (p : Problem) (round : Round) (s : State) (c j : ℕ) (lists : ℕ → List (List ℕ))
      → AreLists p round s j lists → AreGroupsAt p round s c j (filter (λ g. contains g c) (up_to j lists))
  -- where the smaller lists are empty, those of one list
  pub takes_of_least : (p : Problem) (round : Round) (s : State) (c j : ℕ) (lists : ℕ → List (List ℕ)) → 1 ≤ j
      → ((i : ℕ) → 1 ≤ i → i < j → lists i ≡ []) → AreLists p round s j lists
      → AreGroupsAt p round s c j (filter (λ g. contains g c) (lists j))
  -- in a wide round one may branch at each county of a listed group
  pub can : (p : Problem) (round : Round) (s : State) (c j : ℕ) (g : List ℕ) → round.format ≡ Wide
      → IsGroupOf p round s j g → contains g c ≡ true → j ≤ round.limit → CanBranch round s c j
  -- where all lists are empty no group fits
  pub none : (p : Problem) (round : Round) (s : State) (lists : ℕ → List (List ℕ)) → IsOrder p round.order
      → AreLists p round s round.limit lists
      → ((i : ℕ) → 1 ≤ i → i ≤ round.limit → lists i ≡ []) → NoGroupFits p round s
