-- A group is read back from its fields.
use Rattle.std.proofs.Common.{◌≡◌, ℕ, ◌<◌, ◌≤◌, ◌==◌, false, List, [], ◌∷◌, ◌++◌, length, map, Some, Ok, refl, ap, ◌∙◌, arith, append-nil, length-append}
use Rattle.std.specs.Fmt.{decimal}
use Rattle.std.specs.List.{AllByRecursion}
use Rattle.std.proofs.lemmas.Fmt.{decimal_nonempty}
use Rattle.std.proofs.lemmas.List.Elements.{All-from_recursion}
use Rattle.std.proofs.lemmas.List.Splits.{slice_split_none, slice_split_at}
use Rattle.field_lines.specs.Fields.{fields_of}
use Rattle.field_lines.specs.Number.{number_in}
use Rattle.field_lines.proofs.NumbersBack.{number_in_back, Digit, decimal_digits, no_byte}
use Rattle.county_codes.specs.Digits.{five_digits, each_after}
use Rattle.county_codes.proofs.DigitsBack.{five_digits_back, code_digits}
use Rattle.grouping_reader.specs.SeatLine.{codes_on, seat_line}
use Rattle.grouping_report.specs.GroupingText.{group_fields}

-- a byte between two others
pub record Within (low high b : ℕ) : Type 0 where
  pub from : low ≤ b
  pub to : b ≤ high

pub all_append : (P : ℕ → Type 0) (xs ys : List ℕ) → AllByRecursion P xs → AllByRecursion P ys → AllByRecursion P (xs ++ ys)
all_append P [] ys a b = b
all_append P (x ∷ xs) ys a b = (a.0, all_append P xs ys a.1 b)

module _ (n : ℕ) (small : n < 65536) where
  -- what is written of seats is read
  seats_back : number_in 0 65535 (decimal n) ≡ Some n
  seats_back = number_in_back 0 65535 n (omega arith) (omega (arith, small)) (omega (arith, small))

  seats_digits : AllByRecursion Digit (decimal n)
  seats_digits = decimal_digits n (omega (arith, small))

pub codes_back : (county_codes : List ℕ) → AllByRecursion (λ c. c ≤ 99999) county_codes → codes_on (map five_digits county_codes) ≡ Ok county_codes
codes_back [] small = refl
codes_back (c ∷ cs) small = rw (five_digits_back c small.0, codes_back cs small.1) refl

-- the fields that stand between pipes
fields_between : (bytes county_codes : List ℕ) → AllByRecursion Digit bytes → AllByRecursion (λ c. c ≤ 99999) county_codes
    → fields_of 124 (bytes ++ each_after (124 ∷ []) county_codes) ≡ bytes ∷ map five_digits county_codes
fields_between bytes [] digits small =
    ap (fields_of 124) (append-nil bytes) ∙ slice_split_none (λ b. b == 124) bytes (All-from_recursion (λ b. (b == 124) ≡ false) bytes (no_byte 124 (omega arith) bytes digits))
fields_between bytes (c ∷ cs) digits small =
    slice_split_at (λ b. b == 124) bytes 124 (five_digits c ++ each_after (124 ∷ []) cs) (All-from_recursion (λ b. (b == 124) ≡ false) bytes (no_byte 124 (omega arith) bytes digits)) refl
    ∙ ap (λ (l : List (List ℕ)). bytes ∷ l) (fields_between (five_digits c) cs (code_digits c small.0) small.1)

-- seats and codes are read back from their fields
pub fields_back : (seats : ℕ) (county_codes : List ℕ) → seats < 65536 → 1 ≤ length county_codes → AllByRecursion (λ c. c ≤ 99999) county_codes
    → seat_line 0 65535 (group_fields seats county_codes) ≡ Ok (seats, county_codes)
unfolding seat_line group_fields
fields_back seats [] few some small = absurd (omega (arith, some))
fields_back seats (c ∷ cs) few some small =
    rw (fields_between (decimal seats) (c ∷ cs) (seats_digits seats few) small, seats_back seats few, codes_back (c ∷ cs) small) refl

wider : (bytes : List ℕ) → AllByRecursion Digit bytes → AllByRecursion (Within 48 124) bytes
wider [] a = tt
wider (b ∷ bytes) a = (record { from = a.0.from; to = omega (arith, a.0.to) }, wider bytes a.1)

codes_within : (county_codes : List ℕ) → AllByRecursion (λ c. c ≤ 99999) county_codes → AllByRecursion (Within 48 124) (each_after (124 ∷ []) county_codes)
codes_within [] small = tt
codes_within (c ∷ cs) small = (
  record { from = omega arith; to = omega arith },
  all_append (Within 48 124) (five_digits c) (each_after (124 ∷ []) cs) (wider (five_digits c) (code_digits c small.0)) (codes_within cs small.1),
)

-- the bytes of the fields are digits and pipes
pub fields_within : (seats : ℕ) (county_codes : List ℕ) → seats < 65536 → AllByRecursion (λ c. c ≤ 99999) county_codes → AllByRecursion (Within 48 124) (group_fields seats county_codes)
unfolding group_fields
fields_within seats county_codes few small =
    all_append (Within 48 124) (decimal seats) (each_after (124 ∷ []) county_codes) (wider (decimal seats) (seats_digits seats few)) (codes_within county_codes small)

-- and there is one
pub fields_some : (seats : ℕ) (county_codes : List ℕ) → seats < 65536 → 1 ≤ length (group_fields seats county_codes)
unfolding group_fields
fields_some seats county_codes few =
    omega (arith, length-append (decimal seats) (each_after (124 ∷ []) county_codes), decimal_nonempty seats (omega (arith, few)))
