-- What a certificate names for a problem is the problem's tolerance.
use Rattle.std.proofs.Common.{◌≡◌, ◌*◌, Bool, true, false, Some, None, if◌then◌else◌, refl, sym, ap}
use Rattle.std.proofs.lemmas.Bool.{eqb-true}
use Rattle.county_codes.specs.Tolerances.{twentieth, same_tolerance, is_tolerance, FitsRange}
use Rattle.grouping_laws.specs.Problem.{Problem}
use Rattle.grouping_laws.specs.Tolerance.{HasTolerance, tolerance_of, named_tolerance}

pub names_its_own : (p : Problem) → HasTolerance p (named_tolerance p)
unfolding named_tolerance
names_its_own p = go (same_tolerance (tolerance_of p) twentieth) refl
  where
    go : (b : Bool) → same_tolerance (tolerance_of p) twentieth ≡ b → HasTolerance p (if b then None else Some (tolerance_of p))
    go true e = sym (eqb-true (p.numerator * 20) (1 * p.denominator) e)
    go false e = refl

-- a test that tells which it is
pub names_none : (p : Problem) → same_tolerance (tolerance_of p) twentieth ≡ true → named_tolerance p ≡ None
unfolding named_tolerance
names_none p e = ap (λ (b : Bool). if b then None else Some (tolerance_of p)) e

pub names_some : (p : Problem) → same_tolerance (tolerance_of p) twentieth ≡ false → named_tolerance p ≡ Some (tolerance_of p)
unfolding named_tolerance
names_some p e = ap (λ (b : Bool). if b then None else Some (tolerance_of p)) e

-- the tolerance that is named is in its range, where the problem's is
pub names_in_range : (p : Problem) → is_tolerance (tolerance_of p) ≡ true → FitsRange (named_tolerance p)
unfolding named_tolerance
names_in_range p fits = go (same_tolerance (tolerance_of p) twentieth)
  where
    go : (b : Bool) → FitsRange (if b then None else Some (tolerance_of p))
    go true = tt
    go false = fits
