-- The table of a plan's districts.
use Rattle.std.specs.Prelude.{◌≡◌, ℕ, ◌==◌, ◌||◌, Bool, List, [], ◌∷◌, ◌++◌, map, flat_map, codes, decimal}
use Rattle.std.specs.Prelude.{if◌then◌else◌}
use Rattle.std.specs.List.{join_with_byte}
use Rattle.county_codes.specs.Digits.{five_digits}
use Rattle.grouping_laws.specs.Problem.{Problem}
use Rattle.grouping_laws.specs.SeatWindow.{AreBounds}
use Rattle.baf_auditor.specs.declared.finding.Set.{Set}
use Rattle.baf_auditor.specs.declared.finding.Set.TheVariants.{Group, Withdrawn}
use Rattle.baf_auditor.specs.declared.district.District.{District}
use Rattle.grouping_table.specs.Quoting.{line_text}

-- a group's number, or `W` and the number of a withdrawn set
abbrev pub set_label : Set → List ℕ
set_label (Group number) = decimal number
set_label (Withdrawn number) = codes "W" ++ decimal number

-- words with a blank between two
abbrev pub with_blanks : List (List ℕ) → List ℕ
with_blanks words = join_with_byte 32 words

-- `=`, `+`, `-` or `@`, with which a formula of a spreadsheet begins
abbrev pub begins_formula : ℕ → Bool
begins_formula byte = (byte == 61) || (byte == 43) || ((byte == 45) || (byte == 64))

-- a single quote before a label that a spreadsheet would take for a formula, and nothing before any other
abbrev pub label_mark : List ℕ → List ℕ
label_mark [] = []
label_mark (b ∷ bs) = if begins_formula b then codes "'" else []

-- the field of a label, which a spreadsheet shows as it is
abbrev pub label_field : List ℕ → List ℕ
label_field label = label_mark label ++ label

-- a district's label and its people, the least and the greatest people of a district, and its sets and counties
abbrev pub district_fields : ℕ × ℕ → District → List (List ℕ)
district_fields bounds d =
    label_field d.label ∷ decimal d.people ∷ decimal bounds.0 ∷ decimal bounds.1
    ∷ with_blanks (map set_label d.sets.items) ∷ with_blanks (map five_digits d.counties.items) ∷ []

-- the names of the fields
abbrev pub districts_header : List ℕ
districts_header = codes "DISTRICT,POPULATION,LEAST,GREATEST,SETS,COUNTIES\n"

-- the lines of districts
abbrev pub district_lines : ℕ × ℕ → List District → List ℕ
district_lines bounds list = flat_map (λ d. line_text (district_fields bounds d)) list

-- the header, and a line for each district
abbrev pub districts_text : ℕ × ℕ → List District → List ℕ
districts_text bounds list = districts_header ++ district_lines bounds list

-- a text is the table, with the least and the greatest people that suit one seat of the problem
abbrev pub IsDistrictsText : Problem → List District → List ℕ → Type 0
IsDistrictsText p list text = (bounds : ℕ × ℕ) × AreBounds p 1 bounds × (text ≡ districts_text bounds list)
