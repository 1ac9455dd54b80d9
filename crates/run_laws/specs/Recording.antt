-- A run that stores its record.
use Rattle.std.specs.Prelude.{◌≡◌, ◌⊎◌, ◌==◌, ◌||◌, ◌++◌, ℕ, Bool, true, false, List, [], ◌∷◌, Option, Some, None}
use Rattle.cli_words.specs.declared.words.CommandWords.{CommandWords}
use Rattle.cli_file_stores.specs.Files.{NamedFile}
use Rattle.cli_file_stores.specs.History.{History}
use Rattle.cli_record.specs.RunRecord.{IsRecord, sums_between}
use Rattle.cli_answers.specs.Answer.{Answered, memory_answer}
use Rattle.run_laws.specs.Forms.{IsShown, form_of_answer}
use Rattle.run_laws.specs.Storing.{store_steps}
use Rattle.cli_words.specs.declared.words.Form.{Form}

-- the status of a run that stores its record
abbrev pub is_recorded : ℕ → Bool
is_recorded status = (status == 0) || ((status == 1) || (status == 3))

-- the answer stands, unless the file of the record was refused: then this is shown in the form of the answer
abbrev pub IsSaidAfter : Form → Option Answered → Answered → Answered → Type 0
IsSaidAfter form None said a = a ≡ said
IsSaidAfter form (Some refusal) said a = IsShown form refusal a

-- The record was stored, or the file was refused, and this is then the answer. The record has the answer behind what
-- was written before it.
pub record StoresRecord (words : List (List ℕ)) (command : CommandWords) (name : List ℕ)
    (before between after : History) (last : List NamedFile) (written : List ℕ) (said a : Answered) : Type 0 where
  pub text : List ℕ
  pub is_record : IsRecord words command (sums_between before between) said.status (written ++ said.text) text
  pub refusal : Option Answered
  pub steps : store_steps (record { name = name; bytes = text } ∷ []) between after last refusal
  pub answer : IsSaidAfter (form_of_answer command) refusal said a

-- no more is stored, and this is the answer
pub record StoresNoMore (between after : History) (last : List NamedFile) (said a : Answered) : Type 0 where
  pub still : after ≡ between
  pub none : last ≡ []
  pub answer : a ≡ said

-- What follows a command's own files and its answer: if its status is 0, 1 or 3, the record of the run is stored. A
-- growth may be refused in composing it.
abbrev pub RecordEnds : List (List ℕ) → CommandWords → List ℕ → History → History → History → List NamedFile
    → List ℕ → Answered → Answered → Type 0
RecordEnds words command name before between after last written said a =
    ((is_recorded said.status ≡ false) × StoresNoMore between after last said a)
    ⊎ ((is_recorded said.status ≡ true)
    × (StoresNoMore between after last memory_answer a
    ⊎ StoresRecord words command name before between after last written said a))
