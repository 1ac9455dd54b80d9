-- Files in memory as files.
use Rattle.std.proofs.Common.{◌≡◌, ◌∙◌, ℕ, ◌+◌, ◌<◌, Bool, true, false, List, ◌++◌, length, take, drop, get_or, Option, Some, refl, sym, ap, add-one, take-append-drop, drop-drop, string_bytes, if◌then◌else◌}
use Rattle.std.specs.Prelude.{slice_set, Result, Ok, Err, OnOk}
use Rattle.std.specs.Option.{option_or}
use Rattle.std.specs.Str.{bytes_eq}
use Rattle.std.proofs.lemmas.List.{get_or-map, length-map, map-set}
use Rattle.cli_file_stores.specs.declared.memory.MemoryFile.{MemoryFile}
use Rattle.cli_file_stores.specs.Files.{NamedFile, Files, held, with_file, with_bytes}
use Rattle.cli_file_stores.specs.Memory.{files_of, HasPlace}
use Rattle.cli_file_stores.proofs.FileLemmas.{passed, found, held-with_file}
use mathlib.Core.Path.{fun_ext}

abbrev file_of : MemoryFile → NamedFile
file_of f = record { name = string_bytes f.name; bytes = f.bytes.items }

module _ (files : List MemoryFile) (i : ℕ) (f : MemoryFile) (name : List ℕ) (lt : i < length files) (is : f ≡ get_or files i f) where
  inside : i < length (files_of files)
  inside = rw (length-map files file_of) lt

  at : (b : Bool) → bytes_eq (string_bytes f.name) name ≡ b → bytes_eq (get_or (files_of files) i (file_of f)).name name ≡ b
  at b e = rw (get_or-map file_of files i f (file_of f) lt, ← is) e

  pub place_passed : bytes_eq (string_bytes f.name) name ≡ false → (bytes : List ℕ)
      → take i (files_of files) ++ with_file (drop i (files_of files)) name bytes ≡ take (i + 1) (files_of files) ++ with_file (drop (i + 1) (files_of files)) name bytes
  place_passed other bytes = rw add-one (passed name bytes (files_of files) i (file_of f) inside (at false other))

  pub place_found : bytes_eq (string_bytes f.name) name ≡ true
      → ((bytes : List ℕ) → take i (files_of files) ++ with_file (drop i (files_of files)) name bytes ≡ with_file (files_of files) name bytes)
      → HasPlace (files_of files) name (Some i)
  place_found same so_far = (inside, λ bytes. sym (so_far bytes) ∙ found name bytes (files_of files) i (file_of f) inside (at true same))

-- a file put at its place
pub put_at : (files : List MemoryFile) (i : ℕ) (f : MemoryFile) (name bytes : List ℕ) → string_bytes f.name ≡ name → f.bytes.items ≡ bytes → HasPlace (files_of files) name (Some i)
    → files_of (slice_set files i f) ≡ with_file (files_of files) name bytes
put_at files i f name bytes is_name is_bytes place =
    map-set file_of files i f ∙ (rw (is_name, is_bytes) (sym (place.1 bytes)))

-- the bytes behind a place: those that a pull gives, and those behind them
pub behind : (bytes : List ℕ) (at count : ℕ) → drop at bytes ≡ take count (drop at bytes) ++ drop (at + count) bytes
behind bytes at count = sym (take-append-drop count (drop at bytes)) ∙ ap (λ (l : List ℕ). take count (drop at bytes) ++ l) (drop-drop count at bytes)

-- what a file store in memory tells after a file was stored
pub told_after : (stored files new : List NamedFile) (name bytes : List ℕ) → new ≡ with_file stored name bytes
    → (λ n. option_or (held new n) (held files n)) ≡ with_bytes (λ n. option_or (held stored n) (held files n)) name bytes
told_after stored files new name bytes is = fun_ext (λ n. rw (is, held-with_file stored name bytes n) (go (bytes_eq name n) (held stored n) (held files n)))
  where
    go : (b : Bool) (x y : Option (List ℕ)) → option_or (if b then Some bytes else x) y ≡ (if b then Some bytes else option_or x y)
    go true x y = refl
    go false x y = refl

-- what a call put on a file store in memory, as the file store tells it
pub told_put : {E : Type 0} (r : Result (Unit {0}) E) (stored files new same : List NamedFile) (name bytes : List ℕ) → same ≡ files → OnOk r (new ≡ with_file stored name bytes)
    → OnOk r (Some (λ n. option_or (held new n) (held same n)) ≡ Some (with_bytes (λ n. option_or (held stored n) (held files n)) name bytes))
told_put (Ok x) stored files new same name bytes kept put = rw kept (ap (λ (f : Files). Some f) (told_after stored files new name bytes put))
told_put (Err e) stored files new same name bytes kept put = tt
