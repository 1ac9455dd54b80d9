-- What a run of a case answers.
use Rattle.std.specs.Prelude.{◌≡◌, ◌⊎◌, ◌<◌, ◌≤◌, ◌++◌, ℕ, Bool, true, false, List, [], Option, Some, None, Result, Ok}
use Rattle.std.specs.Prelude.{Err, IfSome, length, reverse, codes}
use Rattle.std.specs.List.{flat_map}
use Rattle.cli_file_stores.specs.declared.whole_source.WholeFault.{WholeFault}
use Rattle.cli_file_stores.specs.declared.whole_source.WholeFault.TheVariants.{TooLarge, Failed, Memory}
use Rattle.cli_answers.specs.Answer.{Answered, memory_answer}
use Rattle.cli_file_stores.specs.Files.{NamedFile, held, with_files}
use Rattle.cli_file_stores.specs.History.{FileStoreEvent, no_history}
use Rattle.cli.specs.Case.{case_files, case_words, is_case}
use Rattle.run_laws.specs.Run.{IsRunAnswer}
use Rattle.cli.specs.Delivery.{Delivers}

-- the files that were stored: a line `file NAME` and the bytes of each
abbrev pub stored_text : List NamedFile → List ℕ
stored_text files = flat_map (λ f. codes "file " ++ f.name ++ codes "\n" ++ f.bytes) files

-- an answer, and the files that were stored after it
abbrev pub followed_by : Answered → List NamedFile → Answered
followed_by a stored = record { text = a.text ++ stored_text stored; status = a.status }

-- the answer to words over files, after these events and no failure, followed by the files that were stored, each name
-- once
pub record WordsOver (files : List NamedFile) (words : List (List ℕ)) (a : Answered) : Type 0 where
  pub run : Answered
  pub stored : List NamedFile
  pub events : List FileStoreEvent
  pub answer : IsRunAnswer (Some (held files)) words no_history (record { failures = 0; events = events }) stored run
  pub followed : a ≡ followed_by run (with_files [] stored)

-- the answer to the text of a case: none where its first line or a file's name isn't text; else that to its words over
-- its files, of which a later one counts in the place of an earlier one of its name
abbrev pub IsCaseAnswer : List ℕ → Option Answered → Type 0
IsCaseAnswer text None = is_case text ≡ false
IsCaseAnswer text (Some a) = (is_case text ≡ true) × WordsOver (reverse (case_files text)) (case_words text) a

-- what came of reading a source of these bytes, where it tells them, that may fail in the end
abbrev pub IsWholeSource : Option (List ℕ) → Bool → Result (List ℕ) WholeFault → Type 0
IsWholeSource known failed (Ok text) =
    (failed ≡ false) × IfSome known (λ bytes. text ≡ bytes) × (length text ≤ 16777216)
IsWholeSource known failed (Err TooLarge) = (failed ≡ false) × IfSome known (λ bytes. 16777216 < length bytes)
IsWholeSource known failed (Err Failed) = failed ≡ true
IsWholeSource known failed (Err Memory) = failed ≡ false

-- the answer to what was read; a growth may be refused
abbrev pub IsReadAnswer : Result (List ℕ) WholeFault → Option Answered → Type 0
IsReadAnswer (Ok text) a = (a ≡ Some memory_answer) ⊎ IsCaseAnswer text a
IsReadAnswer (Err TooLarge) a = a ≡ Some (record { text = codes "refused case TooLarge line 0\n"; status = 4 })
IsReadAnswer (Err Failed) a = a ≡ Some (record { text = codes "device case Device\n"; status = 5 })
IsReadAnswer (Err Memory) a = a ≡ Some memory_answer

-- where there is no answer nothing is written, and the status is 2
abbrev pub DeliversCase : {W : Type 0} → W → W → (W → Bool) → (W → Option (List ℕ)) → Option Answered → ℕ → Type 0
DeliversCase old new failed contents None status = (new ≡ old) × (status ≡ 2)
DeliversCase old new failed contents (Some a) status = Delivers (failed new) (contents old) (contents new) a status
