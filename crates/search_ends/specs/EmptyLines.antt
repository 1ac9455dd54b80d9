-- Lines of a bound leaf for sizes of which no group fits, and leaves that begin with them.
use Rattle.std.specs.Prelude.{ℕ, ◌+◌, ◌≡◌, ◌<◌, List, [], ◌∷◌, ◌++◌, length, ⊤}
use Rattle.grouping_laws.specs.Problem.{Problem}
use Rattle.certificate_laws.specs.Regions.{listed}
use Rattle.certificate_laws.specs.State.{State, open_to}
use Rattle.certificate_data.specs.Tree.{Allowance, room, weigh, Leaf, bound}

-- the line for a size i without a group that fits: `room` where fewer than i counties are open to groups of i, else
-- `weigh 1` without weights
abbrev pub IsEmptyLine : Problem → State → ℕ → Allowance → Type 0
IsEmptyLine p s i room = length (listed p (open_to s i)) < i
IsEmptyLine p s i (weigh quota weights) = (quota ≡ 1) × (weights ≡ [])

-- lines of sizes without a group that fits, for i, i + 1 and so on
abbrev pub AreEmptyFrom : Problem → State → ℕ → List Allowance → Type 0
AreEmptyFrom p s i [] = ⊤
AreEmptyFrom p s i (line ∷ lines) = IsEmptyLine p s i line × AreEmptyFrom p s (i + 1) lines

-- lines of sizes without a group that fits, from 1 through n
pub record AreEmptyThrough (p : Problem) (s : State) (n : ℕ) (lines : List Allowance) : Type 0 where
  pub number : length lines ≡ n
  pub empty : AreEmptyFrom p s 1 lines

-- a bound leaf: for the sizes below this one lines without a group that fits, and for this size the given line
pub record EndsWith (p : Problem) (s : State) (size : ℕ) (last : Allowance) (leaf : Leaf) : Type 0 where
  pub lines : List Allowance
  pub number : length lines + 1 ≡ size
  pub empty : AreEmptyFrom p s 1 lines
  pub is : leaf ≡ bound (lines ++ last ∷ [])
