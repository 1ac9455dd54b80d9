-- The verdict of a certificate whose text can be read.
use Rattle.std.specs.Prelude.{ℕ, ◌+◌, ◌≡◌, ◌≢◌, ◌<◌, length, Contains, Option, Some, None, ⊤}
use Rattle.county_codes.specs.declared.group.Group.{Group}
use Rattle.county_problem.specs.declared.grouping_fault.GroupingFault.{GroupingFault}
use Rattle.county_problem.specs.declared.grouping_fault.GroupingFault.TheVariants.{Memory}
use Rattle.grouping_laws.specs.Problem.{Problem}
use Rattle.grouping_laws.specs.Grouping.{Grouping, Lawful}
use Rattle.grouping_laws.specs.GroupsFrom.{IsOrder}
use Rattle.grouping_laws.specs.Tolerance.{HasTolerance}
use Rattle.county_problem.specs.Judging.{IsFault}
use Rattle.certificate_data.specs.Round.{Round}
use Rattle.certificate_laws.specs.Certificate.{HasGroupsWithin}
use Rattle.certificate_laws.specs.State.{empty_state}
use Rattle.certificate_data.specs.Tree.{Tree}
use Rattle.checker_laws.specs.Fault.{Fault, WrongWindow, WrongOrder, LimitTooSmall, TargetFault}
use Rattle.checker_laws.specs.End.{End, fine, faulty, LineEnds, LinesEnd, Then}
use Rattle.checker_laws.specs.Lines.{tolerance_line, target_lines}
use Rattle.checker_laws.specs.Trees.{TreeEnds}

-- the tolerance isn't the problem's
abbrev pub IsToleranceFault : Problem → Round → Fault → Type 0
IsToleranceFault p round fault = (fault ≡ WrongWindow) × (¬ HasTolerance p round.tolerance)

abbrev pub IsOrderFault : Problem → Round → Fault → Type 0
IsOrderFault p round fault = (fault ≡ WrongOrder) × (¬ IsOrder p round.order)

-- no group of the target, if there is one, is above the limit
abbrev pub IsLargeEnough : ℕ → Option Grouping → Type 0
IsLargeEnough limit None = ⊤
IsLargeEnough limit (Some target) = HasGroupsWithin limit target

abbrev pub IsLimitFault : ℕ → Option Grouping → Fault → Type 0
IsLimitFault limit None fault = ⊥
IsLimitFault limit (Some target) fault =
    (fault ≡ LimitTooSmall) × ((g : Group) × Contains target g × (limit < length g.codes))

-- the target, if there is one, is lawful
abbrev pub IsLawfulTarget : Problem → Option Grouping → Type 0
IsLawfulTarget p None = ⊤
IsLawfulTarget p (Some target) = Lawful p target

-- the fault of the target is its first one
abbrev pub IsTargetFault : Problem → Option Grouping → Fault → Type 0
IsTargetFault p None fault = ⊥
IsTargetFault p (Some target) fault =
    (kind : GroupingFault) × (fault ≡ TargetFault kind) × IsFault p target kind × (kind ≢ Memory)

-- The order stands on the line after that of the tolerance, then come the limit, the target with its groups behind it,
-- and the tree.
abbrev pub RestEnds : Problem → Round → Tree → ℕ → End → Type 0
RestEnds p round tree second end =
    Then (LineEnds (IsOrder p round.order) (IsOrderFault p round) second)
    (λ third after_order. Then
    (LineEnds (IsLargeEnough round.limit round.target) (IsLimitFault round.limit round.target) third)
    (λ fourth after_limit. Then (LinesEnd (1
    + target_lines round.target) (IsLawfulTarget p round.target) (IsTargetFault p round.target) fourth)
    (TreeEnds tree p round (empty_state p))
    after_limit)
    after_order)
    end

-- The tolerance comes first: it stands on line 2, or a certificate without one is at fault on line 1.
abbrev pub CertificateEnds : Problem → Round → Tree → End → Type 0
CertificateEnds p round tree end =
    Then
    (LineEnds (HasTolerance p round.tolerance) (IsToleranceFault p round) (tolerance_line round.tolerance))
    (RestEnds p round tree)
    end

-- what is said of a certificate
pub data CertificateVerdict : Type 0 where
  Best : (target : Grouping) → CertificateVerdict
  Impossible : CertificateVerdict
  No : Fault → (line : ℕ) → CertificateVerdict

-- the verdict without a fault
abbrev pub shown : Option Grouping → CertificateVerdict
shown None = Impossible
shown (Some target) = Best target

-- the verdict that an end gives
abbrev pub verdict_of : Option Grouping → End → CertificateVerdict
verdict_of target (fine next) = shown target
verdict_of target (faulty fault line) = No fault line

-- the first fault decides, and without one the target is best or, where there is none, no grouping is lawful
abbrev pub IsVerdict : Problem → Round → Tree → CertificateVerdict → Type 0
IsVerdict p round tree verdict =
    (end : End) × CertificateEnds p round tree end × (verdict ≡ verdict_of round.target end)
