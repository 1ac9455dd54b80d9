-- The counties of a state, said of the lines of a table.
use Rattle.std.specs.Prelude.{◌≡◌, ℕ, true, List, [], ◌∷◌, Some, None, filter, map}
use Rattle.std.specs.List.Sorted.{IsPermutation, IsStrictlyIncreasing}
use Rattle.std.specs.Str.{is_utf8}
use Rattle.field_lines.specs.Cut.{Line, cut}
use Rattle.field_lines.specs.Number.{digits_of, number_in}
use Rattle.county_codes.specs.declared.county.County.{County}
use Rattle.pl94_counties.specs.CountyNames.{CountyName}
use Rattle.people_table.specs.QuotedFields.{quoted_fields}
use Rattle.people_table.specs.CountyLines.{CountyTexts, texts_of, delimiter_of, without_header}
use Rattle.people_table.specs.Listed.{is_of_state}

-- A line has this county: two fields or three, of which the first is the five digits of its code, the second spells its
-- people, and the third, if there is one, is its name.
pub record IsCountyLine (delimiter : ℕ) (line : List ℕ) (k : CountyName) : Type 0 where
  pub texts : CountyTexts
  pub has_texts : texts_of (quoted_fields delimiter line) ≡ Some texts
  pub code_is : digits_of 5 texts.code ≡ Some k.county.code
  pub people_are : number_in 0 4294967295 texts.people ≡ Some k.county.people
  pub name_is : texts.name ≡ k.name
  pub name_is_text : is_utf8 k.name ≡ true

-- each of the lines has the county of its place
abbrev pub AreOnLines : ℕ → List Line → List CountyName → Type 0
AreOnLines delimiter [] [] = Unit {0}
AreOnLines delimiter [] (k ∷ ks) = ⊥
AreOnLines delimiter (line ∷ lines) [] = ⊥
AreOnLines delimiter (line ∷ lines) (k ∷ ks) = IsCountyLine delimiter line.bytes k × AreOnLines delimiter lines ks

-- The counties of the state with their names, by ascending codes, each once. They are exactly the counties of the lines
-- whose code begins with the state's two digits. Every line but a header has a county, and none can't be read.
pub record AreNamedOfTable (table : List ℕ) (state : ℕ) (named : List CountyName) : Type 0 where
  pub readable : (cut table).fault ≡ None
  pub on_table : List CountyName
  pub on_lines : AreOnLines (delimiter_of (cut table).lines)
      (without_header (delimiter_of (cut table).lines) (cut table).lines) on_table
  pub of_state : IsPermutation named (filter (is_of_state state) on_table)
  pub by_code : IsStrictlyIncreasing (map (λ k. k.county.code) named)

-- the counties of the state without their names, in the same way
pub record AreCountiesOfTable (table : List ℕ) (state : ℕ) (counties : List County) : Type 0 where
  pub named : List CountyName
  pub are_named : AreNamedOfTable table state named
  pub counties_are : counties ≡ map (λ k. k.county) named
