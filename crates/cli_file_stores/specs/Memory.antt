-- A file store in memory.
use Rattle.std.specs.Prelude.{◌≡◌, ◌<◌, ◌++◌, ◌∷◌, [], ℕ, Bool, List, Option, Some, None, Result, Ok, Err, length, slice_set}
use Rattle.std.specs.Prelude.{map, string_bytes}
use Rattle.std.specs.Option.{option_map}
use Rattle.std.specs.Borrow.{Bor}
use Rattle.cli_file_stores.specs.declared.memory.MemoryFile.{MemoryFile}
use Rattle.cli_file_stores.specs.Files.{NamedFile, with_file}
use Rattle.cli_file_stores.specs.declared.file_store.ReadEnd.{ReadEnd}
use Rattle.cli_file_stores.specs.declared.file_store.ReadEnd.TheVariants.{Whole, Part}
use Rattle.cli_file_stores.specs.declared.file_store.FileStoreFault.{FileStoreFault}
use Rattle.cli_file_stores.specs.History.{FileStoreEvent}

-- the files that the file store began with, those that were stored, and what was loaded, read and stored
pub record MemoryValue : Type 0 where
  pub files : List NamedFile
  pub stored : List NamedFile
  pub events : List FileStoreEvent

-- a reader of a file in memory: the bytes of the file, those that were given, how many these are, and whether a pull
-- gave none
pub record ReaderValue : Type 0 where
  pub bytes : List ℕ
  pub given : List ℕ
  pub at : ℕ
  pub ended : Bool

-- files with their names and bytes
abbrev pub files_of : List MemoryFile → List NamedFile
files_of files = map (λ f. record { name = string_bytes f.name; bytes = f.bytes.items }) files

-- the bytes of a file that was found
abbrev pub bytes_in : Option (Bor MemoryFile) → Option (List ℕ)
bytes_in found = option_map (λ f. f.now.bytes.items) found

-- the place of the first file of that name, where a file put under it goes; without one it goes last
abbrev pub HasPlace : List NamedFile → List ℕ → Option ℕ → Type 0
HasPlace files name (Some i) =
    (i < length files) × ((bytes : List ℕ)
    → with_file files name bytes ≡ slice_set files i (record { name = name; bytes = bytes }))
HasPlace files name None =
    (bytes : List ℕ) → with_file files name bytes ≡ files ++ record { name = name; bytes = bytes } ∷ []

-- where a reader stood that gave these bytes of a file: at its end, where it gave all of them, or before
abbrev pub ReaderEndsIn : Option (List ℕ) → List ℕ → Result ReadEnd FileStoreFault → Type 0
ReaderEndsIn file given (Ok Whole) = file ≡ Some given
ReaderEndsIn file given (Ok Part) = (later : List ℕ) × (file ≡ Some (given ++ later))
ReaderEndsIn file given (Err fault) = Unit {0}
