-- Which counties and blocks the list has, said of the lines of both files.
use Rattle.std.specs.Prelude.{◌≡◌, ℕ, ◌==◌, Bool, false, List, [], ◌∷◌, Some, Contains, filter, codes}
use Rattle.std.specs.Option.{option_and_then, option_map_or}
use Rattle.field_lines.specs.Cut.{Line}
use Rattle.pl94_counties.specs.declared.geo.Area.{Area}
use Rattle.pl94_counties.specs.Fields.{field, small_number, GeoFields, geo_fields}
use Rattle.pl94_counties.specs.Geo.{state_digits, level_of, area_code}

-- a line of segment 1 has this LOGRECNO and this P0010001
pub record IsRecordLine (line : List ℕ) (number people : ℕ) : Type 0 where
  pub number_is : option_and_then small_number (field 5 line) ≡ Some number
  pub people_is : option_and_then small_number (field 6 line) ≡ Some people

-- whether a line of segment 1 has this LOGRECNO
abbrev pub has_logrecno : ℕ → List ℕ → Bool
has_logrecno number line = option_map_or (λ n. number == n) (option_and_then small_number (field 5 line)) false

-- the number stands on one line of segment 1 and no other, and that line has these people
pub record StandsOnce (segment1 : List Line) (number people : ℕ) : Type 0 where
  pub line : Line
  pub only : filter (λ l. has_logrecno number l.bytes) segment1 ≡ line ∷ []
  pub is_record : IsRecordLine line.bytes number people

-- a line of geo is for such an area of the state, with this code and this LOGRECNO
pub record IsAreaLine (area : Area) (state : ℕ) (line : List ℕ) (code number : ℕ) : Type 0 where
  pub fields : GeoFields
  pub has_fields : geo_fields line ≡ Some fields
  pub level : fields.level ≡ level_of area
  pub component : fields.component ≡ codes "00"
  pub of_state : fields.of_state ≡ state_digits state
  pub code_is : area_code area state fields ≡ Some code
  pub number_is : small_number fields.record_number ≡ Some number

-- a code comes from a line of geo that is for such an area, and has the people of the one record with the line's
-- LOGRECNO
pub record IsJoined (area : Area) (geo segment1 : List Line) (state code people : ℕ) : Type 0 where
  pub line : Line
  pub number : ℕ
  pub stands : Contains geo line
  pub of_area : IsAreaLine area state line.bytes code number
  pub of_record : StandsOnce segment1 number people

-- If a line of geo is for such an area, what is made of its code is listed, with the people of the one record with the
-- line's LOGRECNO.
abbrev pub IsListedArea : {X : Type 0} → (ℕ → ℕ → X) → Area → List Line → ℕ → List X → Line → Type 0
IsListedArea made area segment1 state list line = (code number : ℕ) → IsAreaLine area state line.bytes code number
    → (people : ℕ) × StandsOnce segment1 number people × Contains list (made code people)
