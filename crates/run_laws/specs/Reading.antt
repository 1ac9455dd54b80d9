-- Steps that read files: a file is opened, and the history has what its reader gave once it is given back.
use Rattle.std.specs.Prelude.{◌≡◌, ℕ, List, Option, Result, Ok, Err}
use Rattle.field_lines.specs.Source.{Given}
use Rattle.field_lines.specs.HeldBytes.{Foresees}
use Rattle.cli_file_stores.specs.declared.file_store.ReadEnd.{ReadEnd}
use Rattle.cli_file_stores.specs.declared.file_store.FileStoreFault.{FileStoreFault}
use Rattle.cli_file_stores.specs.Files.{Files}
use Rattle.cli_file_stores.specs.FileStore.{IsRead, read_end}
use Rattle.cli_file_stores.specs.History.{HasRead}
use Rattle.cli_answers.specs.Refusals.{file_store_answer}
use Rattle.run_laws.specs.Steps.{Steps, ◌>>=◌, load_step, value_step}

-- the bytes that a reader gave, and what the file store answered when it was given back
pub record GivenBack : Type 0 where
  pub bytes : List ℕ
  pub answer : Result ReadEnd FileStoreFault

-- A file is opened to be read, which is no event. If it can't be opened, the end is that of a load which fails.
abbrev pub open_step : Option Files → List ℕ → Steps (Unit {0})
open_step files name before after (Ok opened) = after ≡ before
open_step files name before after (Err a) = load_step files name before after (Err a)

-- A reader is given back. The file's name, what the reader gave and the answer are the last of the history.
abbrev pub read_step : Option Files → List ℕ → Steps GivenBack
read_step files name before after (Ok g) =
    IsRead files name g.bytes g.answer × HasRead before after name g.bytes g.answer
read_step files name before after (Err a) = ⊥

-- What the reader gave, and whether it stood at the end of its file. If the reader failed, the end is the answer to
-- what the file store says of the name.
abbrev pub given_step : List ℕ → GivenBack → Steps Given
given_step name g before after (Ok given) =
    (after ≡ before) × (given.bytes ≡ g.bytes) × (g.answer ≡ Ok (read_end given.ended))
given_step name g before after (Err a) =
    (after ≡ before) × ((fault : FileStoreFault) × (g.answer ≡ Err fault) × (a ≡ file_store_answer name fault))

-- a file is opened, and its reader is given back
abbrev pub read_one : Option Files → List ℕ → Steps GivenBack
read_one files name = open_step files name >>= λ opened. read_step files name

-- what the reader of a file gave, which is read once and no further than was asked
abbrev pub given_of : Option Files → List ℕ → Steps Given
given_of files name = read_one files name >>= given_step name

-- two readers are given back, that of the second file first
abbrev pub back_step : Option Files → List ℕ → List ℕ → Steps (GivenBack × GivenBack)
back_step files first second =
    read_step files second >>= λ h. read_step files first >>= λ g. value_step (λ pair. pair ≡ (g, h))

-- two files are opened, the first of them first, and both readers are given back
abbrev pub read_both : Option Files → List ℕ → List ℕ → Steps (GivenBack × GivenBack)
read_both files first second =
    open_step files first >>= λ opened. open_step files second >>= λ both. back_step files first second

-- what two readers gave
abbrev pub given_pair : List ℕ → List ℕ → GivenBack × GivenBack → Steps (Given × Given)
given_pair first second both =
    given_step second both.1 >>= λ y. given_step first both.0 >>= λ x. value_step (λ pair. pair ≡ (x, y))

-- what the readers of two files gave, which are read once and no further than was asked
abbrev pub given_of_both : Option Files → List ℕ → List ℕ → Steps (Given × Given)
given_of_both files first second = read_both files first second >>= given_pair first second

-- This holds of each text that begins with what a reader gave. If the reader stood at the end, that is one text.
abbrev pub OfText : (List ℕ → Type 0) → Given → Type 0
OfText Holds given = (text : List ℕ) → Foresees given text → Holds text

-- the same of two texts
abbrev pub OfTexts : (List ℕ → List ℕ → Type 0) → Given → Given → Type 0
OfTexts Holds first second = (x y : List ℕ) → Foresees first x → Foresees second y → Holds x y
