-- The tolerance that a text writes: a fraction, a decimal or a percentage.
use Rattle.std.specs.Prelude.{◌+◌, ◌-◌, ◌*◌, ◌/◌, ◌%◌, ◌^◌, ◌==◌, ◌&&◌, ℕ, Bool, cond, Option, Some, None, length, nat_le, nat_lt}
use Rattle.std.specs.Char.{is_ascii_digit}
use Rattle.std.specs.List.{after_first, before_first, find, list_all, position_or_len, range_with_len}
use Rattle.std.specs.Option.{option_and_then, option_map}
use Rattle.std.specs.Str.Parse.{digits_value}
use Rattle.clap.specs.Words.{Text}
use Rattle.county_codes.specs.declared.tolerance.Tolerance.{Tolerance}

-- the number that a text of one to nine digits writes
abbrev pub number_in : Text → Option ℕ
number_in text =
    cond (list_all is_ascii_digit text && (nat_lt 0 (length text) && nat_le (length text) 9)) (Some (digits_value 10 text)) None

-- what stands before and behind the first byte of this code in a text, if it has one
abbrev pub halves : ℕ → Text → Option (Text × Text)
halves code text =
    cond (nat_lt (position_or_len (λ b. b == code) text) (length text))
    (Some (before_first (λ b. b == code) text, after_first (λ b. b == code) text)) None

-- two numbers, if both are there
abbrev pub both : Option ℕ → Option ℕ → Option (ℕ × ℕ)
both (Some a) (Some b) = Some (a, b)
both (Some a) None = None
both None b = None

-- A fraction is a part and a whole, here as it is written. Of digits it is the number over 1. Of digits, a point and
-- digits the whole is a power of ten.
abbrev pub point_fraction : Option (Text × Text) → Text → Option (ℕ × ℕ)
point_fraction None text = option_map (λ n. (n, 1)) (number_in text)
point_fraction (Some around) text =
    option_map (λ n. (n.0 * 10 ^ length around.1 + n.1, 10 ^ length around.1)) (both (number_in around.0) (number_in around.1))

-- the fraction that a decimal writes: digits, or digits, a point (code 46) and digits
abbrev pub decimal_in : Text → Option (ℕ × ℕ)
decimal_in text = point_fraction (halves 46 text) text

-- the fraction of a decimal before a percent sign, behind which nothing stands
abbrev pub percentage_of : Text × Text → Option (ℕ × ℕ)
percentage_of around = cond (length around.1 == 0) (option_map (λ f. (f.0, 100 * f.1)) (decimal_in around.0)) None

-- the fraction that a text writes round its first slash, else round its first percent sign, and else as a decimal
abbrev pub fraction_of : (slash percent : Option (Text × Text)) → Text → Option (ℕ × ℕ)
fraction_of (Some around) percent text = both (number_in around.0) (number_in around.1)
fraction_of None (Some around) text = percentage_of around
fraction_of None None text = decimal_in text

-- the fraction that a text writes: two numbers with a slash (code 47) between them, a decimal, or a decimal and a
-- percent sign (code 37)
abbrev pub fraction_in : Text → Option (ℕ × ℕ)
fraction_in text = fraction_of (halves 47 text) (halves 37 text) text

-- the fraction has a whole number of parts of this whole
abbrev pub is_whole_number : ℕ × ℕ → ℕ → Bool
is_whole_number fraction whole = (fraction.0 * whole) % fraction.1 == 0

-- so many parts of a whole, if they are at most 500
abbrev pub parts_of : (parts whole : ℕ) → Option Tolerance
parts_of parts whole = cond (nat_le parts 500) (Some (record { numerator = parts; denominator = whole })) None

-- the fraction as parts of this whole
abbrev pub at_whole : ℕ × ℕ → ℕ → Option Tolerance
at_whole fraction whole = parts_of ((fraction.0 * whole) / fraction.1) whole

-- the least whole, from the first to 1,000, for which the part is a whole number
unfoldable pub least_whole : (first : ℕ) → ℕ × ℕ → Option ℕ
least_whole first fraction = find (is_whole_number fraction) (range_with_len first (1001 - first))

-- The tolerance of a fraction is the same fraction in lowest terms: its whole is the least from 1 to 1,000 for which
-- the part is a whole number. The part is at most 500. A fraction whose whole is 0 has none.
abbrev pub tolerance_of : ℕ × ℕ → Option Tolerance
tolerance_of fraction =
    cond (fraction.1 == 0) None (option_and_then (at_whole fraction) (least_whole 1 fraction))

-- the tolerance that a text writes
unfoldable pub tolerance_in : Text → Option Tolerance
tolerance_in text = option_and_then tolerance_of (fraction_in text)
