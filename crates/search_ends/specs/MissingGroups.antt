-- How many groups of a size are missing to the counts of the target, and which lines allow fewer.
use Rattle.std.specs.Prelude.{ℕ, ◌+◌, ◌-◌, ◌≡◌, ◌≤◌, ◌<◌, Some, ◌⊎◌}
use Rattle.grouping_laws.specs.Problem.{Problem}
use Rattle.grouping_laws.specs.Grouping.{Grouping, counts, sets_of}
use Rattle.certificate_data.specs.declared.format.Format.{Format}
use Rattle.certificate_data.specs.Round.{Round}
use Rattle.certificate_laws.specs.State.{State}
use Rattle.certificate_laws.specs.BoundLines.{allowance, IsFair}
use Rattle.certificate_data.specs.declared.allowance.Allowance.{Allowance}
use Rattle.certificate_lines.specs.declared.item.Item.TheVariants.{Allows}
use Rattle.certificate_data.specs.TreeValue.{allowance_of}
use Rattle.certificate_text.specs.TreeItems.{FitsInTree}
use Rattle.search_groups.specs.Standing.{IsLevel}

-- the first size from 1 through the last one of which there are not as many closed groups as are wanted
pub record DiffersAt (wanted : ℕ → ℕ) (s : State) (last size : ℕ) : Type 0 where
  pub some : 1 ≤ size
  pub small : size ≤ last
  pub level : IsLevel wanted s (size - 1)
  pub other : counts s.closed size ≡ wanted size → ⊥

-- As many closed groups as the target has of each size below this one, and k fewer of this one.
abbrev pub IsMissing : Round → State → ℕ → ℕ → Type 0
IsMissing round s size k =
    (1 ≤ k) × ((t : Grouping) × (round.target ≡ Some t) × IsLevel (counts (sets_of t)) s (size - 1)
    × (counts s.closed size + k ≡ counts (sets_of t) size))

-- where no group fits, a bound leaf may end at this size: fewer groups of it are closed than are wanted, or as many,
-- and it is the limit
pub record MayEndAt (wanted : ℕ → ℕ) (s : State) (limit size : ℕ) : Type 0 where
  pub small : size ≤ limit
  pub level : IsLevel wanted s (size - 1)
  pub last : ((1 ≤ size) × (counts s.closed size < wanted size)) ⊎ ((size ≡ limit) × IsLevel wanted s size)

-- where no group fits, a bound leaf may end at this size by the counts of the round's target
abbrev pub TargetEndsAt : Round → State → ℕ → Type 0
TargetEndsAt round s size = (t : Grouping) × (round.target ≡ Some t) × MayEndAt (counts (sets_of t)) s round.limit size

-- the closed groups have the target's counts through the limit
abbrev pub StandsLevel : Round → State → Type 0
StandsLevel round s = (t : Grouping) × (round.target ≡ Some t) × IsLevel (counts (sets_of t)) s round.limit

-- a line that allows fewer than k groups of i counties, where no smaller group uses a county up, and is fair; its
-- numbers are in their ranges
pub record AllowsFewer (format : Format) (p : Problem) (s : State) (i k : ℕ) (line : Allowance) : Type 0 where
  pub fair : IsFair format p s i (allowance_of line)
  pub fewer : allowance p s i 0 (allowance_of line) < k
  pub spelled : FitsInTree format (Allows line)
