-- Runs whose loads and readers answered as some files have it.
use Rattle.std.specs.Prelude.{◌≡◌, ◌<◌, ◌++◌, ℕ, List, length, Option, Some, None, Result, Ok, Err}
use Rattle.std.specs.List.{All}
use Rattle.cli_words.specs.declared.words.CommandWords.{CommandWords}
use Rattle.cli_file_stores.specs.declared.file_store.FileStoreFault.{FileStoreFault}
use Rattle.cli_file_stores.specs.declared.file_store.FileStoreFault.TheVariants.{Missing, TooLarge, Device, Memory}
use Rattle.cli_file_stores.specs.Files.{NamedFile, Files}
use Rattle.cli_file_stores.specs.FileStore.{ReadsFile}
use Rattle.cli_file_stores.specs.History.{FileStoreEvent, History}
use Rattle.cli_file_stores.specs.History.FileStoreEvent.{Loaded, Read, Stored}
use Rattle.cli_answers.specs.Answer.{Answered}
use Rattle.run_laws.specs.Run.{CommandRun, IsRunAnswer}

-- What a load of a name answered is what these files have: the bytes of the name; Missing where there are none;
-- TooLarge where they are above the limit. The other faults say nothing of the files.
abbrev pub HasAnswer : Files → List ℕ → Result (List ℕ) FileStoreFault → Type 0
HasAnswer files name (Ok bytes) = files name ≡ Some bytes
HasAnswer files name (Err Missing) = files name ≡ None
HasAnswer files name (Err TooLarge) = (bytes : List ℕ) × (files name ≡ Some bytes) × (1073741824 < length bytes)
HasAnswer files name (Err Device) = Unit {0}
HasAnswer files name (Err Memory) = Unit {0}

-- The same of an event: what a reader gave is all bytes of the name where it stood at its end, and a beginning of them
-- where it stood before. A file that was stored says nothing of those that were there.
abbrev pub Answers : Files → FileStoreEvent → Type 0
Answers files (Loaded name answer) = HasAnswer files name answer
Answers files (Read name bytes answer) = ReadsFile files name bytes answer
Answers files (Stored name bytes taken) = Unit {0}

-- the events of one history are those of another and then more, and each of those more answered as these files have it
abbrev pub AnsweredBy : Files → History → History → Type 0
AnsweredBy files before after =
    (more : List FileStoreEvent) × (after.events ≡ before.events ++ more) × All (Answers files) more

-- A run over a file store that tells its files, or that tells none, is also a run over any files by which its loads and
-- readers answered. The same holds of the run of a command.
pub record RunsAreOfTheirLoads : Type 0 where
  pub answer : (given : Option Files) (files : Files) (words : List (List ℕ)) (before after : History)
      (stored : List NamedFile) (a : Answered)
      → IsRunAnswer given words before after stored a → AnsweredBy files before after
      → IsRunAnswer (Some files) words before after stored a
  pub run : (given : Option Files) (files : Files) (command : CommandWords) (before after : History)
      (stored : List NamedFile) (a : Answered)
      → CommandRun given command before after stored a → AnsweredBy files before after
      → CommandRun (Some files) command before after stored a
