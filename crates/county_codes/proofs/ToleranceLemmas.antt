-- What the test of a tolerance tells.
use Rattle.std.proofs.Common.{◌≡◌, ◌*◌, ◌≤◌, ◌&&◌, true, nat_le, arith}
use Rattle.std.proofs.lemmas.Bool.{and_parts}
use Rattle.std.proofs.lemmas.Bool.Decides.{nat_tests}
use Rattle.county_codes.specs.declared.tolerance.Tolerance.{Tolerance}
use Rattle.county_codes.specs.Tolerances.{is_tolerance}

pub record InRange (w : Tolerance) : Type 0 where
  pub some : 1 ≤ w.denominator
  pub few : w.denominator ≤ 1000
  pub half : 2 * w.numerator ≤ w.denominator

pub in_range : (w : Tolerance) → is_tolerance w ≡ true → InRange w
in_range w holds =
    let first = and_parts (nat_le 1 w.denominator) (nat_le w.denominator 1000 && nat_le (2 * w.numerator) w.denominator) holds in
    let second = and_parts (nat_le w.denominator 1000) (nat_le (2 * w.numerator) w.denominator) first.1 in
    let some = first.0 in
    let few = second.0 in
    let half = second.1 in record {
      some = grind (arith, nat_tests, some);
      few = grind (arith, nat_tests, few);
      half = grind (arith, nat_tests, half);
    }
