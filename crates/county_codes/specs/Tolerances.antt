-- Tolerances as fractions.
use Rattle.std.specs.Prelude.{◌≡◌, ◌*◌, ◌==◌, ◌&&◌, nat_le, Bool, true, Option, Some, None}
use Rattle.county_codes.specs.declared.tolerance.Tolerance.{Tolerance}

-- one twentieth, the five percent of Stephenson
abbrev pub twentieth : Tolerance
twentieth = record { numerator = 1; denominator = 20 }

-- the denominator is 1 to 1,000, and the fraction at most a half
abbrev pub is_tolerance : Tolerance → Bool
is_tolerance w = nat_le 1 w.denominator && (nat_le w.denominator 1000 && nat_le (2 * w.numerator) w.denominator)

-- the fractions are equal
abbrev pub same_tolerance : Tolerance → Tolerance → Bool
same_tolerance v w = v.numerator * w.denominator == w.numerator * v.denominator

-- the tolerance of a certificate: one that names none means a twentieth
abbrev pub meant : Option Tolerance → Tolerance
meant None = twentieth
meant (Some w) = w

-- what a certificate names is in its range
abbrev pub FitsRange : Option Tolerance → Type 0
FitsRange None = Unit {0}
FitsRange (Some w) = is_tolerance w ≡ true
