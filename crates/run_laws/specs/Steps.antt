-- Steps: what a command comes to, one step after the other, up to the first fault that it meets.
use Rattle.std.specs.Prelude.{◌≡◌, ◌≤◌, ◌⊎◌, ℕ, List, length, Option, Some, None, Result, Ok, Err}
use Rattle.std.specs.Borrow.{Bor}
use Rattle.cli_file_stores.specs.declared.file_store.FileStoreFault.{FileStoreFault}
use Rattle.cli_file_stores.specs.Files.{Files}
use Rattle.cli_file_stores.specs.FileStore.{IsLoad}
use Rattle.cli_file_stores.specs.History.{History, HasLoaded}
use Rattle.cli_answers.specs.Answer.{Answered}
use Rattle.cli_answers.specs.Refusals.{file_store_answer}

-- what steps come to: a value, or the answer to the first fault met, where the file store had this history before them
-- and this one after them
abbrev pub Steps : Type 0 → Type 1
Steps X = History → History → Result X Answered → Type 0

-- the first steps meet a fault, and its answer is the end
abbrev pub StepsStop : {X Y : Type 0} → Steps X → Steps Y
StepsStop first before after (Ok value) = ⊥
StepsStop first before after (Err a) = first before after (Err a)

-- the first steps give a value, and the next go on with it
pub record GoesOn {X Y : Type 0} (first : Steps X) (next : X → Steps Y) (before after : History)
    (end : Result Y Answered) : Type 0 where
  pub value : X
  pub between : History
  pub given : first before between (Ok value)
  pub goes_on : next value between after end

infixl 10 ◌>>=◌
-- steps, and then others with the value that they give
abbrev pub ◌>>=◌ : {X Y : Type 0} → Steps X → (X → Steps Y) → Steps Y
◌>>=◌ first next before after end = StepsStop first before after end ⊎ GoesOn first next before after end

-- A file is loaded, and its name and what the load answered are the last of the history: its bytes, which are no more
-- than a file store may give, or the answer to what the file store says of its name.
abbrev pub load_step : Option Files → List ℕ → Steps (List ℕ)
load_step files name before after (Ok bytes) =
    IsLoad {X =
    List ℕ} (λ b. b) files before.failures name (Ok bytes)
    × HasLoaded {X = List ℕ} (λ b. b) before after name (Ok bytes) × (length bytes ≤ 1073741824)
load_step files name before after (Err a) =
    (fault : FileStoreFault) × IsLoad {X = List ℕ} (λ b. b) files before.failures name (Err fault)
    × HasLoaded {X = List ℕ} (λ b. b) before after name (Err fault) × (a ≡ file_store_answer name fault)

-- a step without a file: its results are those that R takes, and a fault among them is refused
abbrev pub call_step : {X F : Type 0} → (F → Answered) → (Result X F → Type 0) → Steps X
call_step refuse R before after (Ok value) = (after ≡ before) × R (Ok value)
call_step {F = F} refuse R before after (Err a) = (after ≡ before) × ((fault : F) × R (Err fault) × (a ≡ refuse fault))

-- a step without a file and without a fault, to a value that P takes
abbrev pub value_step : {X : Type 0} → (X → Type 0) → Steps X
value_step P before after (Ok value) = (after ≡ before) × P value
value_step P before after (Err a) = ⊥

-- the steps with a file, where one is named; where none is, the value is this one
abbrev pub optional_step : {X : Type 0} → X → (List ℕ → Steps X) → Option (Bor (List ℕ)) → Steps X
optional_step value steps None = value_step (λ x. x ≡ value)
optional_step value steps (Some name) = steps name.now

-- the answer in which the steps end
abbrev pub StepsEndIn : Steps Answered → History → History → Answered → Type 0
StepsEndIn steps before after a = steps before after (Ok a) ⊎ steps before after (Err a)
