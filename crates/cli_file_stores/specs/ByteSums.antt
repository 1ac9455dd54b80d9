-- The sum of bytes: how many they are, and their SHA-256 digest.
use Rattle.std.specs.Prelude.{ℕ, ◌-◌, ◌^◌, List, length, min}
use Rattle.hex.specs.Hex.{encode_lower}
use Rattle.sha2.specs.Sha256.{sha256}

-- the 64 hexadecimal digits of the SHA-256 digest, letters in lower case
unfoldable pub digest_of : List ℕ → List ℕ
digest_of bytes = encode_lower (sha256 bytes)

-- a count of bytes, and the digits of their digest
pub record SumValue : Type 0 where
  pub bytes : ℕ
  pub digest : List ℕ

-- the sum of bytes; a count above 2^64 - 1 is given as 2^64 - 1
abbrev pub sum_of : List ℕ → SumValue
sum_of bytes = record { bytes = min (length bytes) (2 ^ 64 - 1); digest = digest_of bytes }
