-- Which groups may be closed at a state: dead, live and fitting ones.
use Rattle.std.specs.Prelude.{ℕ, ◌≤◌, List, length, ⊤}
use Rattle.grouping_laws.specs.Sets.{Inside}
use Rattle.grouping_laws.specs.Problem.{Problem, LawfulGroup}
use Rattle.certificate_data.specs.declared.format.Format.{Format}
use Rattle.certificate_data.specs.declared.format.Format.TheVariants.{Plain, Wide}
use Rattle.certificate_data.specs.Round.{Round}
use Rattle.certificate_laws.specs.Regions.{without}
use Rattle.certificate_laws.specs.State.{State, open_to}
use Rattle.certificate_laws.specs.StuckParts.{StuckPart}

-- a group of the rest is dead where some connected part of the rest without it is stuck, else live
abbrev pub IsDead : Problem → State → List ℕ → Type 0
IsDead p s g = StuckPart p s (without g s.rest)

-- no connected part of the rest without it is stuck
abbrev pub IsLive : Problem → State → List ℕ → Type 0
IsLive p s g = ¬ IsDead p s g

-- a wide format leaves dead groups out, and a plain one keeps all
abbrev pub IsKept : Format → Problem → State → List ℕ → Type 0
IsKept Plain p s g = ⊤
IsKept Wide p s g = IsLive p s g

-- a lawful group whose counties are all open to a group of its size, in a wide format a live one
pub record Fits (format : Format) (p : Problem) (s : State) (g : List ℕ) : Type 0 where
  pub lawful : LawfulGroup p g
  pub inside : Inside (open_to s (length g)) g
  pub kept : IsKept format p s g

-- no group of at most the limit fits
abbrev pub NoGroupFits : Problem → Round → State → Type 0
NoGroupFits p round s = (g : List ℕ) → Fits round.format p s g → length g ≤ round.limit → ⊥
