-- Texts of any bytes on one line.
use Rattle.std.specs.Prelude.{ℕ, ◌+◌, ◌/◌, ◌%◌, ◌==◌, ◌||◌, nat_lt, Bool, List, [], ◌∷◌, flat_map, if◌then◌else◌}

-- a backslash, and each byte below 0x20 or above 0x7E
abbrev pub is_escaped : ℕ → Bool
is_escaped byte = (byte == 92) || (nat_lt byte 32 || nat_lt 126 byte)

-- the hexadecimal digit of a number below 16, a letter in upper case
abbrev pub hex_digit : ℕ → ℕ
hex_digit n = if nat_lt n 10 then 48 + n else 55 + n

-- a byte as it is, or `\x` and its two hexadecimal digits
abbrev pub escaped_byte : ℕ → List ℕ
escaped_byte byte = if is_escaped byte then 92 ∷ 120 ∷ hex_digit (byte / 16) ∷ hex_digit (byte % 16) ∷ [] else byte ∷ []

-- a text with those bytes escaped
abbrev pub escaped : List ℕ → List ℕ
escaped text = flat_map escaped_byte text
