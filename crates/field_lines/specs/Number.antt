-- Numbers in fields.
use Rattle.std.specs.Prelude.{ℕ, ◌==◌, ◌&&◌, nat_le, List, [], ◌∷◌, length, Option, Some, None, if◌then◌else◌}
use Rattle.std.specs.List.{list_all}
use Rattle.std.specs.Char.{is_ascii_digit}
use Rattle.std.specs.Str.Parse.{digits_value}

-- the number that one or more digits spell; leading zeros are allowed
abbrev pub number_of : List ℕ → Option ℕ
number_of [] = None
number_of (b ∷ bytes) = if list_all is_ascii_digit (b ∷ bytes) then Some (digits_value 10 (b ∷ bytes)) else None

-- the number, where it is no less than the least and no more than the greatest
abbrev pub kept_in : ℕ → ℕ → Option ℕ → Option ℕ
kept_in least greatest None = None
kept_in least greatest (Some n) = if nat_le least n && nat_le n greatest then Some n else None

-- the number that a field spells, where it lies in the range from the least to the greatest
abbrev pub number_in : ℕ → ℕ → List ℕ → Option ℕ
number_in least greatest field = kept_in least greatest (number_of field)

-- the number that exactly `count` digits spell
abbrev pub digits_of : ℕ → List ℕ → Option ℕ
digits_of count field = if length field == count then number_of field else None
