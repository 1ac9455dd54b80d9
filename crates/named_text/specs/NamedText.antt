-- The text of an answer with the names of its counties.
use Rattle.std.specs.Prelude.{ℕ, ◌==◌, ◌||◌, nat_eq, nat_lt, List, [], ◌∷◌, ◌++◌, Option, Some, None, codes, find, map}
use Rattle.std.specs.Prelude.{if◌then◌else◌}
use Rattle.std.specs.List.{join_by, starts_with}
use Rattle.std.specs.Option.{option_map_or}
use Rattle.std.specs.Str.{bytes_eq}
use Rattle.field_lines.specs.Fields.{fields_of}
use Rattle.field_lines.specs.Number.{digits_of}
use Rattle.pl94_counties.specs.CountyNames.{CountyName}

-- a control character of ASCII is shown as a blank
abbrev pub shown_byte : ℕ → ℕ
shown_byte byte = if nat_lt byte 32 || (byte == 127) then 32 else byte

-- a name as it is shown
abbrev pub shown : List ℕ → List ℕ
shown name = map shown_byte name

-- a name after a blank, unless it is empty
abbrev pub after_blank : List ℕ → List ℕ
after_blank [] = []
after_blank (b ∷ bs) = 32 ∷ shown (b ∷ bs)

-- the name of the listed county of a code; it is empty if no county of the list has the code
abbrev pub name_of : List CountyName → ℕ → List ℕ
name_of names code = option_map_or (λ k. k.name) (find (λ k. k.county.code == code) names) []

-- what stands behind a word, by the code that it spells
abbrev pub name_behind : List CountyName → Option ℕ → List ℕ
name_behind names None = []
name_behind names (Some code) = after_blank (name_of names code)

-- a word, and behind a county's code of five digits the county's name
abbrev pub with_name : List CountyName → List ℕ → List ℕ
with_name names word = word ++ name_behind names (digits_of 5 word)

-- codes with their counties' names, the first after this mark and each other after a comma and a blank
abbrev pub counties_text : List CountyName → List ℕ → List (List ℕ) → List ℕ
counties_text names mark [] = []
counties_text names mark (w ∷ ws) = mark ++ with_name names w ++ counties_text names (codes ", ") ws

-- the words of a group's line, the first after this mark and each other after a blank; behind `counties` stand codes
abbrev pub group_text : List CountyName → List ℕ → List (List ℕ) → List ℕ
group_text names mark [] = []
group_text names mark (w ∷ ws) =
    mark ++ w
    ++ (if bytes_eq w (codes "counties") then counties_text names (codes " ") ws else group_text names (codes " ") ws)

-- a line: a group's begins with `group ` and gets the names, and any other stays as it is
abbrev pub line_text : List CountyName → List ℕ → List ℕ
line_text names line =
    if starts_with nat_eq line (codes "group ") then group_text names [] (fields_of 32 line) else line

-- each line of a text
abbrev pub named_text : List CountyName → List ℕ → List ℕ
named_text names text = join_by (line_text names) (codes "\n") (fields_of 10 text)
