-- The fields of a line that are read.
use Rattle.std.specs.Prelude.{ℕ, List, Option, Some, None}
use Rattle.field_lines.specs.Fields.{field_of}
use Rattle.field_lines.specs.Number.{number_in}
use Rattle.pl94_counties.specs.declared.geo.GeoLine.{GeoLine}

infixl 10 ◌>>=◌
abbrev ◌>>=◌ : {A B : Type 0} → Option A → (A → Option B) → Option B
(Some x) >>= f = f x
None >>= f = None

-- a field of a line that is cut at each pipe; the first is field 1
abbrev pub field : ℕ → List ℕ → Option (List ℕ)
field n line = field_of 124 n line

-- the number that a field spells, at most 4,294,967,295
abbrev pub small_number : List ℕ → Option ℕ
small_number bytes = number_in 0 4294967295 bytes

-- the fields of a line of geo that are read
pub record GeoFields : Type 0 where
  pub level : List ℕ
  pub component : List ℕ
  pub record_number : List ℕ
  pub geocode : List ℕ
  pub of_state : List ℕ
  pub county : List ℕ

-- SUMLEV, GEOCOMP, LOGRECNO, GEOCODE, STATE and COUNTY of a line, if it has fifteen fields
unfoldable pub geo_fields : List ℕ → Option GeoFields
geo_fields line = do
  level ← field 3 line
  component ← field 5 line
  record_number ← field 8 line
  geocode ← field 10 line
  of_state ← field 13 line
  county ← field 15 line
  Some (record {
    level =
        level;
    component = component;
    record_number = record_number;
    geocode = geocode;
    of_state = of_state;
    county = county;
  })

-- the fields that a `GeoLine` refers to
abbrev pub fields_shown : GeoLine → GeoFields
fields_shown g =
    record {
      level = g.level.now;
      component = g.component.now;
      record_number = g.record_number.now;
      geocode = g.geocode.now;
      of_state = g.state.now;
      county = g.county.now;
    }
