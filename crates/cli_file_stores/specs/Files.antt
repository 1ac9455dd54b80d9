-- Files with names.
use Rattle.std.specs.Prelude.{ℕ, List, [], ◌∷◌, Option, Some, None, if◌then◌else◌}
use Rattle.std.specs.Option.{option_or}
use Rattle.std.specs.Str.{bytes_eq}

-- a file: its name and its bytes
pub record NamedFile : Type 0 where
  pub name : List ℕ
  pub bytes : List ℕ

-- the bytes under each name
abbrev pub Files : Type 0
Files = List ℕ → Option (List ℕ)

-- the bytes of a file of that name
abbrev pub file_bytes : NamedFile → List ℕ → Option (List ℕ)
file_bytes f name = if bytes_eq f.name name then Some f.bytes else None

-- the bytes of the first file of each name
abbrev pub held : List NamedFile → Files
held [] name = None
held (f ∷ fs) name = option_or (file_bytes f name) (held fs name)

-- the files with one of that name: in the place of the file that had it, else last
abbrev pub with_file : List NamedFile → List ℕ → List ℕ → List NamedFile
with_file [] name bytes = record { name = name; bytes = bytes } ∷ []
with_file (f ∷ fs) name bytes =
    if bytes_eq f.name name then record { name = name; bytes = bytes } ∷ fs else f ∷ with_file fs name bytes

-- the files under their names, one changed
abbrev pub with_bytes : Files → List ℕ → List ℕ → Files
with_bytes files name bytes other = if bytes_eq name other then Some bytes else files other

-- the files with others put in turn
abbrev pub with_files : List NamedFile → List NamedFile → List NamedFile
with_files files [] = files
with_files files (f ∷ fs) = with_files (with_file files f.name f.bytes) fs

-- the files under their names, with others put in turn
abbrev pub with_all : Files → List NamedFile → Files
with_all files [] = files
with_all files (f ∷ fs) = with_all (with_bytes files f.name f.bytes) fs
