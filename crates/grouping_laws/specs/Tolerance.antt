-- The tolerance that a certificate names, and that of a problem.
use Rattle.std.specs.Prelude.{◌*◌, ◌≡◌, Option, Some, None, if◌then◌else◌}
use Rattle.county_codes.specs.declared.tolerance.Tolerance.{Tolerance}
use Rattle.county_codes.specs.Tolerances.{meant, twentieth, same_tolerance}
use Rattle.grouping_laws.specs.Problem.{Problem}

-- a problem has the tolerance of a certificate where the fractions are equal
abbrev pub HasTolerance : Problem → Option Tolerance → Type 0
HasTolerance p named = (meant named).numerator * p.denominator ≡ p.numerator * (meant named).denominator

-- the tolerance of a problem as a fraction
abbrev pub tolerance_of : Problem → Tolerance
tolerance_of p = record { numerator = p.numerator; denominator = p.denominator }

-- what a certificate names for a problem: nothing where the tolerance is a twentieth, and else the problem's own pair
unfoldable pub named_tolerance : Problem → Option Tolerance
named_tolerance p = if same_tolerance (tolerance_of p) twentieth then None else Some (tolerance_of p)
