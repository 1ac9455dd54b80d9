-- Which connected parts no groups can fill.
use Rattle.std.specs.Prelude.{ℕ, ◌≡◌, ◌<◌, Bool, true, List, length, ◌⊎◌}
use Rattle.grouping_laws.specs.Sets.{contains}
use Rattle.grouping_laws.specs.Problem.{Problem, Suits, people_of}
use Rattle.grouping_laws.specs.Parts.{IsPart}
use Rattle.certificate_laws.specs.State.{State}

-- A set of counties of the rest that no groups can fill: its people suit no number of seats, or some county of it asks
-- for a larger group. Groups whose windows are met together meet the window of the sum of their seats, so a part that
-- suits no number can't be divided.
abbrev pub CannotFill : Problem → State → List ℕ → Type 0
CannotFill p s codes =
    ((k : ℕ) → ¬ Suits p (people_of p codes) k) ⊎ ((c : ℕ) × (contains codes c ≡ true) × (length codes < s.least c))

-- a connected part of a region that is stuck
pub record StuckPart (p : Problem) (s : State) (region : ℕ → Bool) : Type 0 where
  pub part : List ℕ
  pub is_part : IsPart p region part
  pub stuck : CannotFill p s part
