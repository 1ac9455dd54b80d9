-- Named files, as a file store tells them.
use Rattle.std.specs.Prelude.{◌≡◌, ◌<◌, ◌≤◌, ◌-◌, ◌^◌, ◌⊎◌, ℕ, Bool, true, false, List, ◌++◌, length, Option, Some, None}
use Rattle.std.specs.Prelude.{Result, Ok, Err}
use Rattle.cli_file_stores.specs.declared.file_store.ReadEnd.{ReadEnd}
use Rattle.cli_file_stores.specs.declared.file_store.ReadEnd.TheVariants.{Whole, Part}
use Rattle.cli_file_stores.specs.declared.file_store.FileStoreFault.{FileStoreFault}
use Rattle.cli_file_stores.specs.declared.file_store.FileStoreFault.TheVariants.{Missing, TooLarge, Device, Memory}
use Rattle.cli_file_stores.specs.Files.{Files}

-- What a load of a name answers where the file store tells its files and has failed so often before: the bytes; Missing
-- where there are none, or the device failed and its count was at the last value; TooLarge only above the limit. The
-- other faults say nothing of the files.
abbrev pub Loads : {X : Type 0} → (X → List ℕ) → Files → ℕ → List ℕ → Result X FileStoreFault → Type 0
Loads view files failures name (Ok x) = files name ≡ Some (view x)
Loads view files failures name (Err Missing) = (files name ≡ None) ⊎ (failures ≡ 2 ^ 64 - 1)
Loads view files failures name (Err TooLarge) =
    (bytes : List ℕ) × (files name ≡ Some bytes) × (1073741824 < length bytes)
Loads view files failures name (Err Device) = Unit {0}
Loads view files failures name (Err Memory) = Unit {0}

-- what a load of a name answers: nothing is said of it where the file store doesn't tell its files
abbrev pub IsLoad : {X : Type 0} → (X → List ℕ) → Option Files → ℕ → List ℕ → Result X FileStoreFault → Type 0
IsLoad view None failures name loaded = Unit {0}
IsLoad view (Some files) failures name loaded = Loads view files failures name loaded

-- What opening a file answers where the file store may not tell its files: as a load, but that no file is too large.
abbrev pub Opens : {X : Type 0} → Option Files → ℕ → List ℕ → Result X FileStoreFault → Type 0
Opens None failures name opened = Unit {0}
Opens (Some files) failures name (Ok x) = (bytes : List ℕ) × (files name ≡ Some bytes)
Opens (Some files) failures name (Err fault) = Loads {X = List ℕ} (λ bytes. bytes) files failures name (Err fault)

-- where a reader stood: at the end of its file, if a pull gave no byte
abbrev pub read_end : Bool → ReadEnd
read_end true = Whole
read_end false = Part

-- What a reader of a name gave, where the file store tells its files: all bytes of the file, or a beginning of them. A
-- reader that failed says nothing of the files.
abbrev pub ReadsFile : Files → List ℕ → List ℕ → Result ReadEnd FileStoreFault → Type 0
ReadsFile files name bytes (Ok Whole) = files name ≡ Some bytes
ReadsFile files name bytes (Ok Part) = (later : List ℕ) × (files name ≡ Some (bytes ++ later))
ReadsFile files name bytes (Err fault) = Unit {0}

-- what a reader of a name gave: nothing is said of it where the file store doesn't tell its files
abbrev pub IsRead : Option Files → List ℕ → List ℕ → Result ReadEnd FileStoreFault → Type 0
IsRead None name bytes answer = Unit {0}
IsRead (Some files) name bytes answer = ReadsFile files name bytes answer

-- the count of failures never falls, and rises at a fault of the device
abbrev pub CountsFault : ℕ → ℕ → FileStoreFault → Type 0
CountsFault before after Device = before < after
CountsFault before after fault = before ≤ after

-- the count of failures never falls by a call, and rises where its result is a fault of the device
abbrev pub CountsFailures : {X : Type 0} → ℕ → ℕ → Result X FileStoreFault → Type 0
CountsFailures before after (Ok x) = before ≤ after
CountsFailures before after (Err fault) = CountsFault before after fault

-- What storing these bytes answers where the device has failed so often before: Missing only where the device failed
-- with its count at the last value; TooLarge only above the limit. Device and Memory are counted elsewhere.
abbrev pub IsStore : {X : Type 0} → ℕ → List ℕ → Result X FileStoreFault → Type 0
IsStore failures bytes (Ok x) = Unit {0}
IsStore failures bytes (Err Missing) = failures ≡ 2 ^ 64 - 1
IsStore failures bytes (Err TooLarge) = 1073741824 < length bytes
IsStore failures bytes (Err Device) = Unit {0}
IsStore failures bytes (Err Memory) = Unit {0}
