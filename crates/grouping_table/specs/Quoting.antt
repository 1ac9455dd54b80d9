-- The fields and the lines of a comma-separated text (RFC 4180).
use Rattle.std.specs.Prelude.{ℕ, ◌==◌, ◌||◌, Bool, List, [], ◌∷◌, ◌++◌, map, if◌then◌else◌}
use Rattle.std.specs.List.{list_any, join_with_byte}

-- a comma, a quote, a carriage return or a line feed
abbrev pub calls_for_quotes : ℕ → Bool
calls_for_quotes byte = (byte == 44) || (byte == 34) || ((byte == 13) || (byte == 10))

-- each quote of a field with another quote before it
abbrev pub doubled_quotes : List ℕ → List ℕ
doubled_quotes [] = []
doubled_quotes (byte ∷ rest) = if byte == 34 then 34 ∷ byte ∷ doubled_quotes rest else byte ∷ doubled_quotes rest

-- a field stands between quotes if some byte of the field calls for quotes, and else as it is
abbrev pub field_text : List ℕ → List ℕ
field_text field = if list_any calls_for_quotes field then 34 ∷ (doubled_quotes field ++ (34 ∷ [])) else field

-- the fields with a comma between two, and a line feed
abbrev pub line_text : List (List ℕ) → List ℕ
line_text fields = join_with_byte 44 (map field_text fields) ++ (10 ∷ [])
