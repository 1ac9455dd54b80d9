-- A number that is written in decimal is read, and its bytes are digits.
use Rattle.std.proofs.Common.{◌≡◌, ℕ, ◌+◌, ◌<◌, ◌≤◌, ◌^◌, ◌==◌, true, false, List, [], ◌∷◌, length, Some, refl, ap, ◌∙◌, arith}
use Rattle.std.specs.Fmt.{decimal}
use Rattle.std.specs.List.{AllByRecursion, list_all}
use Rattle.std.specs.Char.{is_ascii_digit, digit_value}
use Rattle.std.specs.Str.Parse.{digits_value}
use Rattle.std.proofs.lemmas.Bool.{and_parts, and_from, le-leb, ne_eqb}
use Rattle.std.proofs.lemmas.Bool.Decides.{nat_tests}
use Rattle.std.proofs.lemmas.Fmt.{digits_decimal, digits_value-decimal, decimal_nonempty}
use Rattle.std.proofs.lemmas.Str.Parse.{IsDigitsTest, IsNumeralModel, numerals_by_value}
use Rattle.field_lines.specs.Number.{number_of, number_in, kept_in}
use Rattle.field_lines.proofs.NumberLemmas.{is_digit}

-- the test of digits is one by which numerals are told
tells : IsDigitsTest (λ ds. list_all is_ascii_digit ds ≡ true)
tells = record {
  empty = refl;
  parts = λ c cs e.
      let parts = and_parts (is_ascii_digit c) (list_all is_ascii_digit cs) e in
      let digit = is_digit c parts.0 in
      ((digit.low, digit.high), parts.1);
  more = λ c cs range rest.
      let from : 48 ≤ c = range.0 in
      let to : c ≤ 57 = range.1 in
      and_from (is_ascii_digit c) (list_all is_ascii_digit cs) (grind (arith, nat_tests, from, to)) rest;
}

pub own : IsNumeralModel (λ ds. list_all is_ascii_digit ds ≡ true) (digits_value 10)
own = numerals_by_value (λ ds. list_all is_ascii_digit ds ≡ true) tells

-- one or more digits spell their value
pub number_spelled : (ds : List ℕ) → 0 < length ds → list_all is_ascii_digit ds ≡ true → number_of ds ≡ Some (digits_value 10 ds)
number_spelled [] some all = absurd (omega (arith, some))
number_spelled (d ∷ ds) some all = rw all refl

pub decimal_passes : (n : ℕ) → n < 2 ^ 64 → list_all is_ascii_digit (decimal n) ≡ true
decimal_passes n fits = digits_decimal own n fits

-- a number in its range is read
pub number_in_back : (least greatest n : ℕ) → least ≤ n → n ≤ greatest → n < 2 ^ 64 → number_in least greatest (decimal n) ≡ Some n
number_in_back least greatest n low high fits =
    let value : number_of (decimal n) ≡ Some n = number_spelled (decimal n) (decimal_nonempty n fits) (decimal_passes n fits) ∙ ap (λ (k : ℕ). Some k) (digits_value-decimal own n fits) in
    ap (kept_in least greatest) value ∙ (rw (le-leb least n low, le-leb n greatest high) refl)

-- one digit
pub digit_passes : (x : ℕ) → x ≤ 9 → is_ascii_digit (48 + x) ≡ true
digit_passes x few = grind (arith, nat_tests)

pub digit_is : (x : ℕ) → x ≤ 9 → digit_value (48 + x) ≡ x
digit_is x few = omega (arith, (is_digit (48 + x) (digit_passes x few)).value)

-- a byte that is a digit
pub record Digit (b : ℕ) : Type 0 where
  pub from : 48 ≤ b
  pub to : b ≤ 57

pub digits : (ds : List ℕ) → list_all is_ascii_digit ds ≡ true → AllByRecursion Digit ds
digits [] all = tt
digits (d ∷ ds) all =
    let parts = and_parts (is_ascii_digit d) (list_all is_ascii_digit ds) all in
    let digit = is_digit d parts.0 in
    (record { from = digit.low; to = digit.high }, digits ds parts.1)

pub decimal_digits : (n : ℕ) → n < 2 ^ 64 → AllByRecursion Digit (decimal n)
decimal_digits n fits = digits (decimal n) (decimal_passes n fits)

-- no digit is a byte above the digits
pub no_byte : (k : ℕ) → 57 < k → (bytes : List ℕ) → AllByRecursion Digit bytes → AllByRecursion (λ b. (b == k) ≡ false) bytes
no_byte k big [] a = tt
no_byte k big (b ∷ bytes) a = (ne_eqb b k (λ e. omega (arith, e, a.0.to, big)), no_byte k big bytes a.1)
