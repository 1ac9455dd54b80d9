-- Texts that are UTF-8.
use Rattle.std.proofs.Common.{◌≡◌, ◌/◌, ◌%◌, ◌<◌, ◌++◌, [], ℕ, List, true, false, ap, arith, rules}
use Rattle.std.specs.Bool.{if◌then◌else◌}
use Rattle.std.specs.Str.{IsAscii, is_utf8}
use Rattle.std.proofs.lemmas.Str.{IsUtf8-from_ascii, is_utf8-from_IsUtf8, IsAscii-append}
use Rattle.std.proofs.lemmas.Str.Ascii.{IsAscii-from_all}
use Rattle.county_codes.specs.Digits.{five_digits}
use Rattle.grouping_report.specs.FindingsText.{fifteen_digits}
use Rattle.json_report.specs.Parts.{if_utf8}

pub if_text : (bytes : List ℕ) → is_utf8 bytes ≡ true → if_utf8 bytes ≡ bytes
if_text bytes h = ap (λ b. if b then bytes else []) h

pub if_no_text : (bytes : List ℕ) → is_utf8 bytes ≡ false → if_utf8 bytes ≡ []
if_no_text bytes h = ap (λ b. if b then bytes else []) h

-- ASCII is text
text_of_ascii : (bytes : List ℕ) → IsAscii bytes → if_utf8 bytes ≡ bytes
text_of_ascii bytes h = if_text bytes (is_utf8-from_IsUtf8 bytes (IsUtf8-from_ascii bytes h))

digits_ascii : (n : ℕ) → n < 100000 → IsAscii (five_digits n)
digits_ascii n h = IsAscii-from_all (five_digits n) (search rules)

-- the five digits of a code
pub text_of_digits : (n : ℕ) → n < 100000 → if_utf8 (five_digits n) ≡ five_digits n
text_of_digits n h = text_of_ascii (five_digits n) (digits_ascii n h)

-- the fifteen digits of a block
part : (n : ℕ) → IsAscii (five_digits (n % 100000))
part n = digits_ascii (n % 100000) (omega arith)

both : (m n : ℕ) → IsAscii (five_digits (m % 100000) ++ five_digits (n % 100000))
both m n = IsAscii-append (five_digits (m % 100000)) (five_digits (n % 100000)) (part m) (part n)

pub text_of_block : (block : ℕ) → if_utf8 (fifteen_digits block) ≡ fifteen_digits block
unfolding fifteen_digits
text_of_block block =
    let first = block / 10000000000 in
    let later = five_digits (block / 100000 % 100000) ++ five_digits (block % 100000) in
    text_of_ascii (fifteen_digits block)
    (IsAscii-append (five_digits (first % 100000)) later (part first) (both (block / 100000) block))
