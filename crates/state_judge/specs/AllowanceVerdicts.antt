-- What the answers of the call that judges a line of a bound leaf say.
use Rattle.std.specs.Prelude.{ℕ, ◌+◌, ◌*◌, ◌≡◌, ◌≤◌, true, ⊤}
use Rattle.county_codes.specs.Limits.{most_counties}
use Rattle.grouping_laws.specs.Problem.{Problem}
use Rattle.certificate_data.specs.declared.format.Format.{Format}
use Rattle.certificate_laws.specs.State.{State}
use Rattle.certificate_data.specs.Tree.{Allowance}
use Rattle.certificate_laws.specs.BoundLines.{allowance, IsFair}
use Rattle.certificate_lines.specs.Lines.{ascend}
use Rattle.certificate_data.specs.declared.allowance.Allowance.{Allowance as AllowanceHeld}
use Rattle.certificate_data.specs.declared.allowance.Allowance.TheVariants.{Room, Weigh}
use Rattle.checker_laws.specs.Leaves.{IsLoss, IsEven}
use Rattle.state_judge.specs.declared.bound.Allowed.{Allowed}
use Rattle.state_judge.specs.declared.bound.Allowed.TheVariants.{Loss, Even}

-- a text may spell the line, whatever its length: the quota is no 0, and the codes of the weights ascend
abbrev pub AllowanceIsSpelled : AllowanceHeld → Type 0
AllowanceIsSpelled Room = ⊤
AllowanceIsSpelled (Weigh quota weights) = (1 ≤ quota) × (ascend weights ≡ true)

-- the line is fair, and what it allows is fewer groups than the target has, or as many, where `used` counties are used
-- up from now on
abbrev pub IsAllowed : Format → Problem → State → (ℕ → ℕ) → ℕ → ℕ → Allowance → Allowed → Type 0
IsAllowed format p s wanted i used line Loss = IsFair format p s i line × IsLoss p s wanted i used line
IsAllowed format p s wanted i used line (Even now) =
    IsFair format p s i line × IsEven p s wanted i used line × (now ≡ used + i * allowance p s i used line)
    × (now ≤ most_counties)
