-- A code that is written by its five digits is read, and its bytes are digits.
use Rattle.std.proofs.Common.{◌≡◌, ℕ, ◌/◌, ◌%◌, ◌≤◌, true, Some, refl, ap, ◌∙◌, arith}
use Rattle.std.specs.List.{AllByRecursion, list_all}
use Rattle.std.specs.Char.{is_ascii_digit}
use Rattle.std.specs.Str.Parse.{digits_value}
use Rattle.field_lines.specs.Number.{digits_of}
use Rattle.field_lines.proofs.NumbersBack.{number_spelled, digit_passes, digit_is, Digit, digits}
use Rattle.county_codes.specs.Digits.{five_digits}

module _ (c : ℕ) (small : c ≤ 99999) where
  ten_thousands : c / 10000 ≤ 9
  ten_thousands = omega arith

  five_pass : list_all is_ascii_digit (five_digits c) ≡ true
  five_pass =
      rw (digit_passes (c / 10000) ten_thousands, digit_passes (c / 1000 % 10) (omega arith), digit_passes (c / 100 % 10) (omega arith), digit_passes (c / 10 % 10) (omega arith), digit_passes (c % 10) (omega arith)) refl

  five_value : digits_value 10 (five_digits c) ≡ c
  five_value =
      rw (digit_is (c / 10000) ten_thousands, digit_is (c / 1000 % 10) (omega arith), digit_is (c / 100 % 10) (omega arith), digit_is (c / 10 % 10) (omega arith), digit_is (c % 10) (omega arith)) (omega arith)

  -- a code is read
  pub five_digits_back : digits_of 5 (five_digits c) ≡ Some c
  five_digits_back = number_spelled (five_digits c) (omega arith) five_pass ∙ ap (λ (k : ℕ). Some k) five_value

  pub code_digits : AllByRecursion Digit (five_digits c)
  code_digits = digits (five_digits c) five_pass
