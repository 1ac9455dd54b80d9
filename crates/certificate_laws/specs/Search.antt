-- How a search for a greater grouping ends: with a proof tree, or with the grouping.
use Rattle.std.specs.Prelude.{ℕ, ◌+◌, ◌≡◌, ◌≤◌, ◌<◌, true, List, [], ◌∷◌, ◌++◌, length, All, AllPairs, Contains, ◌⊎◌}
use Rattle.std.specs.Prelude.{◌↔◌, ⊤}
use Rattle.grouping_laws.specs.Sets.{sum_by, contains}
use Rattle.grouping_laws.specs.Problem.{Problem, IsProblem}
use Rattle.grouping_laws.specs.Grouping.{Grouping, Lawful, counts, sets_of, IsImpossible}
use Rattle.grouping_laws.specs.Parts.{AreParts}
use Rattle.grouping_laws.specs.Ranges.{HasRange, seated, SuitAll}
use Rattle.certificate_data.specs.declared.format.Format.{Format}
use Rattle.certificate_data.specs.Round.{Round}
use Rattle.certificate_laws.specs.State.{State, IsState, empty_state}
use Rattle.certificate_laws.specs.Agreement.{Agrees}
use Rattle.certificate_laws.specs.Fitting.{Fits, NoGroupFits}
use Rattle.certificate_data.specs.Tree.{Weight, Allowance, weigh, Leaf, stuck, seats, bound, Tree}
use Rattle.certificate_laws.specs.Leaves.{IsValidLeaf}
use Rattle.certificate_laws.specs.Proving.{Proves, CanBranch}
use Rattle.certificate_laws.specs.Groups.{AreGroupsAt}
use Rattle.certificate_laws.specs.Certificate.{Beats}

-- a county of some group of i counties that fits
abbrev pub IsInFittingGroup : Format → Problem → State → ℕ → ℕ → Type 0
IsInFittingGroup format p s i c = (g : List ℕ) × Fits format p s g × (length g ≡ i) × (contains g c ≡ true)

-- a count line, for size i: the quota is i, and each county of some group of i counties that fits has weight 1
pub record IsCountLine (format : Format) (p : Problem) (s : State) (i : ℕ) (line : Allowance) : Type 0 where
  pub weights : List Weight
  pub is : line ≡ weigh i weights
  pub ascending : AllPairs (λ v w. v.county < w.county) weights
  pub each : (w : Weight) → Contains weights w ↔ ((w.weight ≡ 1) × IsInFittingGroup format p s i w.county)

-- count lines for the sizes i, i + 1 and so on
abbrev pub AreCountLines : Format → Problem → State → ℕ → List Allowance → Type 0
AreCountLines format p s i [] = ⊤
AreCountLines format p s i (line ∷ lines) = IsCountLine format p s i line × AreCountLines format p s (i + 1) lines

-- no stuck leaf, no seats leaf and no bound leaf of at most `most` count lines is valid
pub record HasNoLeaf (p : Problem) (round : Round) (most : ℕ) (s : State) : Type 0 where
  pub no_stuck : (c : ℕ) → ¬ IsValidLeaf p round s (stuck c)
  pub no_seats : ¬ IsValidLeaf p round s seats
  pub no_count : (lines : List Allowance) → length lines ≤ most → AreCountLines round.format p s 1 lines
      → ¬ IsValidLeaf p round s (bound lines)

-- Some seats suit the closed groups and the connected parts of the rest and add up to the seats left, and whichever do
-- so make a lawful grouping that agrees with the state and is greater than the target.
pub record FinishedBeats (p : Problem) (round : Round) (s : State) (parts : List (List ℕ)) : Type 0 where
  pub some : (ks : List ℕ) × SuitAll p (s.closed ++ parts) ks × (sum_by (λ k. k) ks ≡ p.seats_left)
  pub all : (ks : List ℕ) → SuitAll p (s.closed ++ parts) ks → sum_by (λ k. k) ks ≡ p.seats_left
      → Lawful p (seated (s.closed ++ parts) ks) × Agrees s (seated (s.closed ++ parts) ks)
      × Beats round.target (counts (s.closed ++ parts))
  -- each part is above the limit, so where there is none all groups are within it
  pub large : All (λ codes. round.limit < length codes) parts

-- If no group within the limit fits and no leaf is valid, the closed groups and the parts of the rest beat the target.
abbrev pub FinishedStateBeats : Type 0
FinishedStateBeats =
    (p : Problem) (round : Round) (s : State) (parts : List (List ℕ))
    → ((people : ℕ) → HasRange p people) → IsState p round s → NoGroupFits p round s → HasNoLeaf p round round.limit s
    → AreParts p s.rest parts
    → FinishedBeats p round s parts

-- a lawful grouping that agrees with the state and is greater than the target
abbrev pub IsFound : Problem → Round → State → Grouping → Type 0
IsFound p round s g = Lawful p g × Agrees s g × Beats round.target (counts (sets_of g))

-- a proof tree, or a lawful grouping that agrees with the state and is greater than the target
abbrev pub SearchEnd : Problem → Round → State → Type 0
SearchEnd p round s = ((tree : Tree) × Proves tree p round s) ⊎ ((g : Grouping) × IsFound p round s g)

-- Whoever finds a leaf or sees that there is none, finds a county and a limit to branch at or sees that no group fits,
-- and lists the groups at a county has, at every state, a proof tree or a greater grouping.
abbrev pub SearchEnds : Type 0
SearchEnds =
    (p : Problem) (round : Round) → IsProblem p
    → ((s : State) → IsState p round s → ((l : Leaf) × IsValidLeaf p round s l) ⊎ HasNoLeaf p round round.limit s)
    → ((s : State) → IsState p round s → ((c : ℕ) × (j : ℕ) × CanBranch round s c j) ⊎ NoGroupFits p round s)
    → ((s : State) (c j : ℕ) → IsState p round s → CanBranch round s c j
    → (groups : List (List ℕ)) × AreGroupsAt p round s c j groups)
    → (s : State) → IsState p round s → SearchEnd p round s

-- Where no grouping is lawful, one leaf is valid at the empty state of every round.
abbrev pub ImpossibleIsLeaf : Type 0
ImpossibleIsLeaf =
    (p : Problem) → IsProblem p → IsImpossible p
    → (l : Leaf) × ((round : Round) → IsValidLeaf p round (empty_state p) l)
