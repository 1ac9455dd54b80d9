-- The text of a grouping, as it is read again.
use Rattle.std.specs.Prelude.{◌≤◌, ℕ, List, ◌++◌, length, All, codes, decimal}
use Rattle.std.specs.List.{flat_map}
use Rattle.grouping_laws.specs.Grouping.{Grouping}
use Rattle.field_lines.specs.Fault.{most_lines, most_bytes}
use Rattle.county_codes.specs.Digits.{each_after}

-- a group's seats and its codes, each code after a pipe
unfoldable pub group_fields : ℕ → List ℕ → List ℕ
group_fields seats county_codes = decimal seats ++ each_after (codes "|") county_codes

-- the lines of the groups
abbrev pub grouping_text : Grouping → List ℕ
grouping_text g = flat_map (λ s. group_fields s.seats s.codes ++ codes "\n") g

-- each group has a code, and the text keeps the limits of a cut text
pub record IsReadable (g : Grouping) : Type 0 where
  pub some_code : All (λ s. 1 ≤ length s.codes) g
  pub short_lines : All (λ s. length (group_fields s.seats s.codes) ≤ most_bytes) g
  pub few_lines : length g ≤ most_lines
