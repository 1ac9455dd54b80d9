-- What the record of a run says.
use Rattle.std.specs.Prelude.{◌≡◌, ℕ, List, length, map, drop}
use Rattle.std.specs.String.{string_bytes}
use Rattle.cli_words.specs.Version.{program_version}
use Rattle.cli_words.specs.declared.words.CommandWords.{CommandWords}
use Rattle.cli_record.specs.declared.run.FileRead.{FileRead}
use Rattle.cli_record.specs.declared.run.FileStored.{FileStored}
use Rattle.cli_record.specs.declared.run.Run.{Run}
use Rattle.cli_record.specs.Answers.{recorded_answer}
use Rattle.cli_record.specs.Record.{record_text}
use Rattle.cli_file_stores.specs.History.{History}
use Rattle.cli_file_stores.specs.Sums.{SumOfEvent, sum_of_event}
use Rattle.cli_record.specs.RecordFiles.{ReadValue, StoredValue, files_to_read, files_read, options_to_store}
use Rattle.cli_record.specs.RecordFiles.{files_stored}

-- the lines of a file as the code has them
abbrev pub read_line_of : FileRead → ReadValue
read_line_of r = record { file = r.file; sum = r.sum; name = string_bytes r.name; left = r.left }

abbrev pub stored_line_of : FileStored → StoredValue
stored_line_of s = record { option = s.option; sum = s.sum; name = string_bytes s.name }

-- What a record says of a run: the version of the program, the words, the files that the command read and stored, by
-- the sums of the run's events, the status, and the answer.
pub record SaysOfRun (words : List (List ℕ)) (command : CommandWords) (sums : List SumOfEvent) (status : ℕ)
    (text : List ℕ) (run : Run) : Type 0 where
  pub version : string_bytes run.version ≡ program_version
  pub words_are : map string_bytes run.words.items ≡ words
  pub reads : map read_line_of run.reads.items ≡ files_read (files_to_read command) sums
  pub stores : map stored_line_of run.stores.items ≡ files_stored (options_to_store command status) sums
  pub status_is : run.status ≡ status
  pub answer_is : run.answer.items ≡ recorded_answer text

-- the bytes are the record of a run that ends with this status and this text
abbrev pub IsRecord : List (List ℕ) → CommandWords → List SumOfEvent → ℕ → List ℕ → List ℕ → Type 0
IsRecord words command sums status text bytes =
    (run : Run) × SaysOfRun words command sums status text run × (bytes ≡ record_text run)

-- what was read and stored between two histories: the sums of the events that only the later one has
abbrev pub sums_between : History → History → List SumOfEvent
sums_between before after = map sum_of_event (drop (length before.events) after.events)
