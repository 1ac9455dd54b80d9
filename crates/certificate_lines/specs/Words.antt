-- The words of a line, and what each of them may spell.
use Rattle.std.specs.Prelude.{ℕ, ◌==◌, ◌&&◌, nat_lt, nat_le, not, Bool, false, List, [], ◌∷◌, length, Result, Ok, Err}
use Rattle.std.specs.Prelude.{if◌then◌else◌}
use Rattle.std.specs.List.{list_all}
use Rattle.std.specs.Option.{ok_or}
use Rattle.std.specs.Char.{is_ascii_digit}
use Rattle.field_lines.specs.Chain.{◌>>=◌}
use Rattle.field_lines.specs.Fault.{most_bytes}
use Rattle.field_lines.specs.Fields.{fields_of}
use Rattle.field_lines.specs.Number.{number_in, digits_of}
use Rattle.certificate_lines.specs.declared.fault.TextKind.{TextKind}
use Rattle.certificate_lines.specs.declared.fault.TextKind.TheVariants.{BadWord, BadNumber, NotCanonical, CutShort}
use Rattle.certificate_data.specs.declared.weights.Weight.{Weight}

-- a byte that is printed
abbrev pub is_printable : ℕ → Bool
is_printable b = nat_le 32 b && nat_le b 126

-- there is a byte
abbrev pub has_bytes : List ℕ → Bool
has_bytes word = not (length word == 0)

-- the words of a line stand between its blanks
abbrev pub words_of : List ℕ → List (List ℕ)
words_of line = fields_of 32 line

-- Every byte is printed, and no word is empty: so no blank stands first, last or beside another, and there is a byte.
unfoldable pub is_canonical : List ℕ → Bool
is_canonical line = list_all is_printable line && list_all has_bytes (words_of line)

-- the bytes of a line: at most 65,536, and an LF ends them
unfoldable pub line_bytes : List ℕ → Bool → Result (List ℕ) TextKind
line_bytes bytes ended =
    if nat_lt most_bytes (length bytes) then Err BadWord
    else if not ended then Err CutShort
    else Ok bytes

-- the words of a line
unfoldable pub line_words : List ℕ → Bool → Result (List (List ℕ)) TextKind
line_words bytes ended = do
  line ← line_bytes bytes ended
  if is_canonical line then Ok (words_of line) else Err NotCanonical

-- one or more digits
abbrev pub is_numeral : List ℕ → Bool
is_numeral word = has_bytes word && list_all is_ascii_digit word

-- a zero in front of other bytes
abbrev pub has_leading_zero : List ℕ → Bool
has_leading_zero (b ∷ c ∷ bytes) = b == 48
has_leading_zero _ = false

-- the number that a word spells: digits, then no leading zero, then the range
unfoldable pub number : ℕ → ℕ → List ℕ → Result ℕ TextKind
number least greatest word =
    if not (is_numeral word) then Err BadNumber
    else if has_leading_zero word then Err NotCanonical
    else ok_or (number_in least greatest word) BadNumber

-- the code that a word spells
unfoldable pub code : List ℕ → Result ℕ TextKind
code word = ok_or (digits_of 5 word) BadNumber

abbrev pub halves : List (List ℕ) → Result Weight TextKind
halves (first ∷ second ∷ []) = do
  county ← code first
  weight ← number 1 1000000 second
  Ok (record { county = county; weight = weight })
halves _ = Err BadNumber

-- the weight that a word spells, with one colon
unfoldable pub pair : List ℕ → Result Weight TextKind
pair word = halves (fields_of 58 word)
