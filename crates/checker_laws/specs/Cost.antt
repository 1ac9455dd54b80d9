-- What the judging of a certificate costs.
use Rattle.std.specs.Prelude.{ℕ, ◌+◌, ◌*◌, ◌≡◌, ◌≤◌, List, [], ◌∷◌, length, AllPairs, Contains, Option, Some, None}
use Rattle.std.specs.Prelude.{◌⊎◌, ◌↔◌}
use Rattle.grouping_laws.specs.Problem.{Problem}
use Rattle.grouping_laws.specs.Grouping.{Grouping, counts, sets_of}
use Rattle.grouping_laws.specs.GroupsFrom.{IsOrder, IsBefore}
use Rattle.grouping_laws.specs.Tolerance.{HasTolerance}
use Rattle.certificate_data.specs.Round.{Round}
use Rattle.certificate_laws.specs.State.{State, close, raise, empty_state}
use Rattle.certificate_laws.specs.Groups.{AreGroupsAt, IsSetAt, IsSetWithin}
use Rattle.certificate_data.specs.Tree.{Allowance, room, weigh, Leaf, bound, Tree, leaf, branch, Takes, no_take, take}
use Rattle.certificate_data.specs.Tree.{groups_of, stuck, seats}
use Rattle.certificate_laws.specs.BoundLines.{allowance, IsFair}
use Rattle.certificate_laws.specs.Proving.{limit_of, CanBranch, NamesLimit, Proves, EachProves}
use Rattle.checker_laws.specs.Leaves.{IsEven}
use Rattle.checker_laws.specs.Branches.{IsNextTake, behind}
use Rattle.checker_laws.specs.Lines.{tree_lines, certificate_lines}
use Rattle.checker_laws.specs.Verdict.{IsLargeEnough, IsLawfulTarget}

-- there are `n` sets of this kind: the sorted list of them all has `n`
pub record IsSetCount (order : List ℕ) (Kind : List ℕ → Type 0) (n : ℕ) : Type 0 where
  pub sets : List (List ℕ)
  pub each : (g : List ℕ) → Contains sets g ↔ Kind g
  pub sorted : AllPairs (IsBefore order) sets
  pub number : n ≡ length sets

-- the sum of two numbers
abbrev pub Both : (ℕ → Type 0) → (ℕ → Type 0) → ℕ → Type 0
Both First Second n = (a : ℕ) × (b : ℕ) × First a × Second b × (n ≡ a + b)

-- the number, where what comes before is fine, and else 0: a line behind the first fault is not judged
abbrev pub Where : Type 0 → (ℕ → Type 0) → ℕ → Type 0
Where Fine Number n = (Fine × Number n) ⊎ ((¬ Fine) × (n ≡ 0))

-- how many sets are looked through for the line for size i
abbrev pub LineLooks : Allowance → Problem → Round → State → ℕ → ℕ → Type 0
LineLooks room p round s i n = n ≡ 0
LineLooks (weigh quota weights) p round s i n = IsSetCount round.order (IsSetWithin p round.order s i) n

-- for the lines of a bound leaf, up to the first that is at fault or a loss
abbrev pub AllowancesLook : List Allowance → Problem → Round → State → (ℕ → ℕ) → ℕ → ℕ → ℕ → Type 0
AllowancesLook [] p round s wanted i used n = n ≡ 0
AllowancesLook (line ∷ lines) p round s wanted i used n =
    Both (LineLooks line p round s i)
    (Where (IsFair round.format p s i line
    × IsEven p s wanted i used line) (AllowancesLook lines p round s wanted (i + 1) (used
    + i * allowance p s i used line)))
    n

abbrev pub BoundLooks : List Allowance → Problem → Round → State → Option Grouping → ℕ → Type 0
BoundLooks lines p round s None n = n ≡ 0
BoundLooks lines p round s (Some target) n =
    Where (length lines ≤ round.limit) (AllowancesLook lines p round s (counts (sets_of target)) 1 0) n

-- for a leaf
abbrev pub LeafLooks : Leaf → Problem → Round → State → ℕ → Type 0
LeafLooks (stuck county) p round s n = n ≡ 0
LeafLooks seats p round s n = n ≡ 0
LeafLooks (bound lines) p round s n = BoundLooks lines p round s round.target n

-- For a tree: at each branch that can stand the sets that have its county, then what its takes look through, and where
-- these are fine what the tree behind the mark does.
abbrev mutual
  pub TreeLooks : Tree → Problem → Round → State → ℕ → Type 0
  TreeLooks (leaf l) p round s n = LeafLooks l p round s n
  TreeLooks (branch county limit takes raised) p round s n =
      Where (NamesLimit round.format limit × CanBranch round s county (limit_of round limit))
      (Both (IsSetCount round.order (IsSetAt p round.order s county (limit_of round limit)))
      (λ m. (groups : List (List ℕ)) × AreGroupsAt p round s county (limit_of round limit) groups
      × Both (TakesLook takes p round s groups)
      (Where ((groups_of takes ≡ groups)
      × EachProves takes p round s) (TreeLooks raised p round (raise county (limit_of round limit) s)))
      m))
      n

  -- for the takes from one on, where these groups are still to be taken
  pub TakesLook : Takes → Problem → Round → State → List (List ℕ) → ℕ → Type 0
  TakesLook no_take p round s groups n = n ≡ 0
  TakesLook (take codes tree others) p round s groups n =
      Where (IsNextTake groups codes)
      (Both (TreeLooks tree p round (close codes s))
      (Where (Proves tree p round (close codes s)) (TakesLook others p round s (behind groups))))
      n

-- 3 for each line, and 3 for each set that is looked through
abbrev pub TreeCosts : Tree → Problem → Round → State → ℕ → Type 0
TreeCosts tree p round s cost = (n : ℕ) × TreeLooks tree p round s n × (cost ≡ 3 * (tree_lines tree + n))

-- A text has one line more than LFs. The tree is judged where tolerance, order, limit and target are fine.
abbrev pub CertificateCosts : Problem → Round → Tree → ℕ → Type 0
CertificateCosts p round tree cost =
    (n : ℕ)
    × Where (HasTolerance p round.tolerance × IsOrder p round.order × IsLargeEnough round.limit round.target
    × IsLawfulTarget p round.target) (TreeLooks tree p round (empty_state p)) n
    × (cost ≡ 3 * (certificate_lines round tree + 1 + n))
