-- Files that a command stores, in turn, before it says its answer.
use Rattle.std.specs.Prelude.{◌≡◌, ◌⊎◌, ⊤, ℕ, List, [], ◌∷◌, Option, Some, None, Ok, Err, Contains, option_map}
use Rattle.std.specs.Borrow.{Bor}
use Rattle.cli_file_stores.specs.declared.file_store.FileStoreFault.{FileStoreFault}
use Rattle.cli_file_stores.specs.Files.{NamedFile, Files, with_files, with_all}
use Rattle.cli_file_stores.specs.FileStore.{IsStore}
use Rattle.cli_file_stores.specs.History.{History, HasPut}
use Rattle.cli_answers.specs.Answer.{Answered, memory_answer}
use Rattle.cli_answers.specs.Refusals.{file_store_answer}
use Rattle.run_laws.specs.Steps.{Steps}

-- what was refused has this answer, unless a growth was refused in composing it
abbrev pub IsAnsweredBy : Option Answered → Answered → Type 0
IsAnsweredBy refusal a = (refusal ≡ Some a) ⊎ (refusal ≡ Some memory_answer)

-- The first file is refused for a fault of the file store: nothing is stored, and this is the answer to it.
pub record IsFirstRefused (f : NamedFile) (before after : History) (stored : List NamedFile)
    (refusal : Option Answered) : Type 0 where
  pub fault : FileStoreFault
  pub is : IsStore {X = Unit {0}} before.failures f.bytes (Err fault)
  pub logged : HasPut {X = Unit {0}} before after f.name f.bytes (Err fault)
  pub none_stored : stored ≡ []
  pub answer : IsAnsweredBy refusal (file_store_answer f.name fault)

-- What storing files in turn comes to, where the file store had this history before it and this one after it: the files
-- that were stored, and the answer to the one that was refused, if one was. Those behind it are not stored, and nothing
-- is loaded or read.
abbrev pub store_steps : List NamedFile → History → History → List NamedFile → Option Answered → Type 0
store_steps [] before after stored refusal = (after ≡ before) × (stored ≡ []) × (refusal ≡ None)
store_steps (f ∷ fs) before after stored refusal =
    IsFirstRefused f before after stored refusal
    ⊎ ((between : History) × (more : List NamedFile) × HasPut {X = Unit {0}} before between f.name f.bytes (Ok tt)
    × (stored ≡ f ∷ more) × store_steps fs between after more refusal)

-- the answer, unless a file was refused
abbrev pub said_after : Option Answered → Answered → Answered
said_after None a = a
said_after (Some refusal) a = refusal

-- Steps come to what is to be said and stored, and its files are then stored. They end at a fault that they met before
-- anything was stored, or with the files stored and the answer, unless a file was refused.
abbrev pub EndsStoring : {S : Type 0} → Steps S → (S → List NamedFile) → (S → Answered) → History → History
    → List NamedFile → Answered → Type 0
EndsStoring {S} steps files_of answer before after stored a =
    (steps before after (Err a) × (stored ≡ []))
    ⊎ ((s : S) × (between : History) × (refusal : Option Answered) × steps before between (Ok s)
    × store_steps (files_of s) between after stored refusal × (a ≡ said_after refusal (answer s)))

-- the file of a text, where there is one and its file is named
abbrev pub named_file : Option (Bor (List ℕ)) → Option (List ℕ) → List NamedFile
named_file None text = []
named_file (Some name) None = []
named_file (Some name) (Some text) = record { name = name.now; bytes = text } ∷ []

-- where a file is named, it was stored with a text for which P holds
abbrev pub IsStoredAs : Option (Bor (List ℕ)) → (List ℕ → Type 0) → List NamedFile → Type 0
IsStoredAs None P stored = ⊤
IsStoredAs (Some name) P stored = (text : List ℕ) × P text × Contains stored (record { name = name.now; bytes = text })

-- a file store holds the files of before and those that were stored in turn, where it tells them
pub record HasStored (files files_after : Option Files) (listed listed_after : Option (List NamedFile))
    (stored : List NamedFile) : Type 0 where
  pub contents : files_after ≡ option_map (λ held. with_all held stored) files
  pub list : listed_after ≡ option_map (λ held. with_files held stored) listed
