-- The lines of a table, each of which has a county with its people.
use Rattle.std.specs.Prelude.{ℕ, ◌==◌, ◌&&◌, not, Bool, false, List, [], ◌∷◌, Option, Some, None, Result, Ok}
use Rattle.std.specs.Prelude.{is_none, if◌then◌else◌}
use Rattle.std.specs.List.{list_any}
use Rattle.std.specs.Option.{ok_or}
use Rattle.std.specs.Str.{is_utf8}
use Rattle.field_lines.specs.Chain.{◌>>=◌}
use Rattle.field_lines.specs.Cut.{Line}
use Rattle.field_lines.specs.Number.{digits_of, number_in}
use Rattle.pl94_counties.specs.Counties.{county_of}
use Rattle.pl94_counties.specs.CountyNames.{CountyName}
use Rattle.people_table.specs.declared.fault.PeopleKind.{PeopleKind}
use Rattle.people_table.specs.declared.fault.PeopleKind.TheVariants.{BadLine, BadCode, BadNumber, BadName}
use Rattle.people_table.specs.QuotedFields.{LineFields, quoted_fields}

-- whether a line has the byte
abbrev pub has_byte : ℕ → List ℕ → Bool
has_byte byte line = list_any (λ b. b == byte) line

-- the delimiter that a first line calls for: the pipe if it has a pipe and no comma, and else the comma
abbrev pub delimiter_on : List ℕ → ℕ
delimiter_on line = if has_byte 124 line && not (has_byte 44 line) then 124 else 44

-- the delimiter of the lines of a table
abbrev pub delimiter_of : List Line → ℕ
delimiter_of [] = 44
delimiter_of (line ∷ lines) = delimiter_on line.bytes

-- whether the first of the fields isn't a code of five digits
abbrev pub has_no_code : Option LineFields → Bool
has_no_code None = false
has_no_code (Some fields) = is_none (digits_of 5 fields.first)

-- whether a first line is a header: it has fields, and the first of them isn't a code of five digits
abbrev pub is_header : ℕ → List ℕ → Bool
is_header delimiter line = has_no_code (quoted_fields delimiter line)

-- the lines without the first, if that is a header
abbrev pub without_header : ℕ → List Line → List Line
without_header delimiter [] = []
without_header delimiter (line ∷ lines) = if is_header delimiter line.bytes then lines else line ∷ lines

-- the texts of a county's code, of its people and of its name
pub record CountyTexts : Type 0 where
  pub code : List ℕ
  pub people : List ℕ
  pub name : List ℕ

-- two fields or three; the name is empty if there is no third field
abbrev pub texts_in : List ℕ → List (List ℕ) → Option CountyTexts
texts_in code [] = None
texts_in code (people ∷ []) = Some (record { code = code; people = people; name = [] })
texts_in code (people ∷ name ∷ []) = Some (record { code = code; people = people; name = name })
texts_in code (people ∷ name ∷ more ∷ rest) = None

-- the texts of a line
abbrev pub texts_of : Option LineFields → Option CountyTexts
texts_of None = None
texts_of (Some fields) = texts_in fields.first fields.others

-- a county of these people with its name
abbrev pub named_county : ℕ → ℕ → List ℕ → CountyName
named_county code people name = record { county = county_of code people; name = name }

-- a name, if it is UTF-8
abbrev pub utf8_name : List ℕ → Option (List ℕ)
utf8_name name = if is_utf8 name then Some name else None

-- the county of these texts, or the first that is wrong with them
unfoldable pub county_in : CountyTexts → Result CountyName PeopleKind
county_in texts = do
  code ← ok_or (digits_of 5 texts.code) BadCode
  people ← ok_or (number_in 0 4294967295 texts.people) BadNumber
  name ← ok_or (utf8_name texts.name) BadName
  Ok (named_county code people name)

-- the county on a line, or the first that is wrong with the line
abbrev pub county_on : ℕ → List ℕ → Result CountyName PeopleKind
county_on delimiter line = ok_or (texts_of (quoted_fields delimiter line)) BadLine >>= county_in
