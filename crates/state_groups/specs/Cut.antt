-- Parts that no group from free places can reach.
use Rattle.std.specs.Prelude.{ℕ, ◌≡◌, Bool, true, false, List}
use Rattle.grouping_laws.specs.Sets.{contains}
use Rattle.grouping_laws.specs.Problem.{Problem}
use Rattle.grouping_laws.specs.Parts.{IsPart}
use Rattle.certificate_laws.specs.State.{State}
use Rattle.certificate_laws.specs.StuckParts.{CannotFill}

-- a connected part of the region that has no free place, and that no groups can fill
pub record CutOff (p : Problem) (s : State) (region free : ℕ → Bool) : Type 0 where
  pub part : List ℕ
  pub is_part : IsPart p region part
  pub none_free : (c : ℕ) → contains part c ≡ true → free c ≡ false
  pub stuck : CannotFill p s part
