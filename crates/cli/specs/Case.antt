-- A case: the words of a command and its files, in one text.
use Rattle.std.specs.Prelude.{ℕ, ◌&&◌, ◌==◌, Bool, List, [], ◌∷◌, ◌++◌, Option, Some, None, codes, drop, if◌then◌else◌}
use Rattle.std.specs.List.{starts_with, slice_split, list_all}
use Rattle.std.specs.Prelude.{nat_eq}
use Rattle.std.specs.Str.{is_utf8}
use Rattle.field_lines.specs.RawPieces.{RawLine, raw_lines}
use Rattle.cli_file_stores.specs.Files.{NamedFile}

-- a piece with its LF, if it has one
abbrev pub whole_line : RawLine → List ℕ
whole_line p = if p.ended then p.bytes ++ 10 ∷ [] else p.bytes

-- the name that a line `file NAME` gives
abbrev pub file_name : List ℕ → Option (List ℕ)
file_name bytes = if starts_with nat_eq bytes (codes "file ") then Some (drop 5 bytes) else None

-- the lines up to the next that names a file, and the files from there on
pub record CaseParts : Type 0 where
  pub lines : List ℕ
  pub files : List NamedFile

-- a line that names a file begins it; any other joins the lines that follow
abbrev pub line_in_front : Option (List ℕ) → RawLine → CaseParts → CaseParts
line_in_front None p parts = record { lines = whole_line p ++ parts.lines; files = parts.files }
line_in_front (Some name) p parts =
    record { lines = []; files = record { name = name; bytes = parts.lines } ∷ parts.files }

-- the lines of pieces, and their files
abbrev pub parts_of : List RawLine → CaseParts
parts_of [] = record { lines = []; files = [] }
parts_of (p ∷ ps) = line_in_front (file_name p.bytes) p (parts_of ps)

-- the first line of a case, without its LF
abbrev pub first_case_line : List RawLine → List ℕ
first_case_line [] = []
first_case_line (p ∷ ps) = p.bytes

-- the files of a case: each line `file NAME` begins one, whose bytes are the lines up to the next; lines before the
-- first are ignored
abbrev pub case_files : List ℕ → List NamedFile
case_files text = (parts_of (drop 1 (raw_lines text))).files

-- the words of a case: its first line, cut at each blank
abbrev pub case_words : List ℕ → List (List ℕ)
case_words text = slice_split (λ b. b == 32) (first_case_line (raw_lines text))

-- the files whose names are text
abbrev pub are_named : List NamedFile → Bool
are_named files = list_all (λ f. is_utf8 f.name) files

-- the first line and the names of the files are text
abbrev pub is_case : List ℕ → Bool
is_case text = is_utf8 (first_case_line (raw_lines text)) && are_named (case_files text)

-- a file that is being read with the bytes so far, and the files after it
abbrev pub with_open : Option (List ℕ) → List ℕ → CaseParts → List NamedFile
with_open None bytes parts = parts.files
with_open (Some name) bytes parts = record { name = name; bytes = bytes ++ parts.lines } ∷ parts.files
