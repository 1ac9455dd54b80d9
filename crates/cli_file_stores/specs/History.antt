-- What a file store has done so far.
use Rattle.std.specs.Prelude.{◌≡◌, ℕ, Bool, true, false, List, [], ◌∷◌, ◌++◌, Result, Ok, Err}
use Rattle.cli_file_stores.specs.declared.file_store.ReadEnd.{ReadEnd}
use Rattle.cli_file_stores.specs.declared.file_store.FileStoreFault.{FileStoreFault}
use Rattle.cli_file_stores.specs.FileStore.{CountsFailures}

-- a file was loaded: its name, and the bytes or the fault; a reader was given back: the file's name, the bytes that it
-- gave, and where it stood, or its fault; a file was handed over to be stored: its name, its bytes, and whether they
-- were taken
pub data FileStoreEvent : Type 0 where
  Loaded : List ℕ → Result (List ℕ) FileStoreFault → FileStoreEvent
  Read : List ℕ → List ℕ → Result ReadEnd FileStoreFault → FileStoreEvent
  Stored : List ℕ → List ℕ → Bool → FileStoreEvent

-- how often the device has failed, and what was loaded, read and stored so far, in order
pub record History : Type 0 where
  pub failures : ℕ
  pub events : List FileStoreEvent

-- no failure and no event
abbrev pub no_history : History
no_history = record { failures = 0; events = [] }

-- an answer, by its bytes
abbrev pub bytes_of_answer : {X : Type 0} → (X → List ℕ) → Result X FileStoreFault → Result (List ℕ) FileStoreFault
bytes_of_answer view (Ok x) = Ok (view x)
bytes_of_answer view (Err fault) = Err fault

-- whether a file was taken
abbrev pub is_taken : {X : Type 0} → Result X FileStoreFault → Bool
is_taken (Ok x) = true
is_taken (Err fault) = false

-- the events, and a load
abbrev pub with_load : {X : Type 0} → (X → List ℕ) → List FileStoreEvent → List ℕ → Result X FileStoreFault
    → List FileStoreEvent
with_load view events name answer = events ++ Loaded name (bytes_of_answer view answer) ∷ []

-- the events, and a reader that was given back
abbrev pub with_read : List FileStoreEvent → List ℕ → List ℕ → Result ReadEnd FileStoreFault → List FileStoreEvent
with_read events name bytes answer = events ++ Read name bytes answer ∷ []

-- the events, and a file that was handed over
abbrev pub with_store : {X : Type 0} → List FileStoreEvent → List ℕ → List ℕ → Result X FileStoreFault
    → List FileStoreEvent
with_store events name bytes answer = events ++ Stored name bytes (is_taken answer) ∷ []

-- a file was loaded: the load is the last event, and its failure is counted
abbrev pub HasLoaded : {X : Type 0} → (X → List ℕ) → History → History → List ℕ → Result X FileStoreFault → Type 0
HasLoaded view before after name answer =
    CountsFailures before.failures after.failures answer × (after.events ≡ with_load view before.events name answer)

-- a file was opened: that is no event; where it could not be, that is the last event, as of a load
abbrev pub HasOpened : {X : Type 0} → History → History → List ℕ → Result X FileStoreFault → Type 0
HasOpened before after name (Ok x) = after ≡ before
HasOpened before after name (Err fault) = HasLoaded {X = List ℕ} (λ bytes. bytes) before after name (Err fault)

-- a reader of this name that gave these bytes was given back: it is the last event, and its failure is counted
abbrev pub HasRead : History → History → List ℕ → List ℕ → Result ReadEnd FileStoreFault → Type 0
HasRead before after name bytes answer =
    CountsFailures before.failures after.failures answer × (after.events ≡ with_read before.events name bytes answer)

-- a file was handed over: it is the last event, and its failure is counted
abbrev pub HasPut : {X : Type 0} → History → History → List ℕ → List ℕ → Result X FileStoreFault → Type 0
HasPut before after name bytes answer =
    CountsFailures before.failures after.failures answer × (after.events ≡ with_store before.events name bytes answer)
