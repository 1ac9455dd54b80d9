-- What a run answers, and which files it stores.
use Rattle.std.specs.Prelude.{◌≡◌, ◌⊎◌, ◌≤◌, ◌++◌, ℕ, true, List, [], Option, Some, None, string_bytes}
use Rattle.cli_words.specs.Words.{Means, EndsFor, EndsTaken, faults_of, takes_words}
use Rattle.cli_words.specs.declared.words.CommandWords.{CommandWords}
use Rattle.cli_words.specs.declared.words.CommandWords.TheVariants.{Size, Judge, Solve, Check, Audit, List as ListAll}
use Rattle.cli_words.specs.declared.words.CommandWords.TheVariants.{Share, Piece, Worker}
use Rattle.cli_words.specs.declared.end.WordsEnd.{WordsEnd}
use Rattle.cli_words.specs.declared.end.WordsEnd.TheVariants.{Help, Version, Usage, Memory}
use Rattle.cli_file_stores.specs.Files.{NamedFile, Files}
use Rattle.cli_file_stores.specs.History.{History}
use Rattle.cli_answers.specs.Answer.{Answered, memory_answer}
use Rattle.run_laws.specs.Forms.{IsShown, form_of_answer}
use Rattle.run_laws.specs.Steps.{StepsEndIn}
use Rattle.run_laws.specs.JudgeSteps.{size_steps, JudgeEnds, AuditEnds}
use Rattle.run_laws.specs.SolveSteps.{SolveEnds}
use Rattle.run_laws.specs.CheckSteps.{CheckEnds}
use Rattle.run_laws.specs.ListSteps.{ListEnds}
use Rattle.run_laws.specs.ShareSteps.{ShareEnds}
use Rattle.run_laws.specs.PieceSteps.{piece_steps}
use Rattle.run_laws.specs.Spoken.{behind}
use Rattle.run_laws.specs.WorkerSteps.{WorkerEnds}
use Rattle.cli_record.specs.RecordFiles.{record_name_of}
use Rattle.run_laws.specs.Recording.{RecordEnds}

-- A command ends with its answer, over a file store of these histories before and after it, with these files stored:
-- `size` and `piece` store none.
abbrev pub CommandEnds : Option Files → CommandWords → History → History → List NamedFile → Answered → Type 0
CommandEnds files (Size words) before after stored a =
    StepsEndIn (size_steps files words) before after a × (stored ≡ [])
CommandEnds files (Judge words) before after stored a = JudgeEnds files words before after stored a
CommandEnds files (Solve words) before after stored a = SolveEnds files words before after stored a
CommandEnds files (Check words) before after stored a = CheckEnds files words before after stored a
CommandEnds files (Audit words) before after stored a = AuditEnds files words before after stored a
CommandEnds files (ListAll words) before after stored a = ListEnds files words before after stored a
CommandEnds files (Share words) before after stored a = ShareEnds files words before after stored a
CommandEnds files (Piece words) before after stored a =
    StepsEndIn (piece_steps files words) before after a × (stored ≡ [])
CommandEnds files (Worker words) before after stored a = WorkerEnds files words before after stored a

-- nothing was stored, since a growth was refused
abbrev pub IsOutOfMemory : List NamedFile → Answered → Type 0
IsOutOfMemory stored a = (a ≡ memory_answer) × (stored ≡ [])

-- what a command answers, before its answer is shown; a growth may be refused in any
abbrev pub CommandAnswers : Option Files → CommandWords → History → History → List NamedFile → Answered → Type 0
CommandAnswers files command before after stored a =
    IsOutOfMemory stored a ⊎ CommandEnds files command before after stored a

-- a command ends, and its answer is shown in its form
pub record EndsShown (files : Option Files) (command : CommandWords) (before after : History) (stored : List NamedFile)
    (a : Answered) : Type 0 where
  pub raw : Answered
  pub ends : CommandEnds files command before after stored raw
  pub shown : IsShown (form_of_answer command) raw a

-- a run of a command; a growth may be refused in any
abbrev pub CommandRun : Option Files → CommandWords → History → History → List NamedFile → Answered → Type 0
CommandRun files command before after stored a =
    IsOutOfMemory stored a ⊎ EndsShown files command before after stored a

-- a run of a command whose words name a file for its record: the command's own files are stored first, and the record
-- is the last; what the command wrote before its answer stands in front of it
pub record RunsWithRecord (files : Option Files) (words : List (List ℕ)) (command : CommandWords) (name : List ℕ)
    (before after : History) (stored : List NamedFile) (a : Answered) : Type 0 where
  pub written : List ℕ
  pub said : Answered
  pub end : Answered
  pub between : History
  pub own : List NamedFile
  pub last : List NamedFile
  pub run : CommandRun files command before between own (behind written said)
  pub record_ends : RecordEnds words command name before between after last written said end
  pub all : stored ≡ own ++ last
  pub answer : a ≡ behind written end

-- a run of a command, with its record if the words name a file for it
abbrev pub RunsAsAsked : Option Files → List (List ℕ) → CommandWords → Option (List ℕ) → History → History
    → List NamedFile → Answered → Type 0
RunsAsAsked files words command None before after stored a = CommandRun files command before after stored a
RunsAsAsked files words command (Some name) before after stored a =
    RunsWithRecord files words command name before after stored a

-- the words give no command: help and the version end with 0 and usage with 2, with clap's text
abbrev pub IsEndAnswer : WordsEnd → Answered → Type 0
IsEndAnswer (Help text) a = a ≡ record { text = string_bytes text; status = 0 }
IsEndAnswer (Version text) a = a ≡ record { text = string_bytes text; status = 0 }
IsEndAnswer (Usage text) a = a ≡ record { text = string_bytes text; status = 2 }
IsEndAnswer Memory a = a ≡ memory_answer

-- the words end before any command, and nothing is loaded or stored
pub record EndsAtWords (words : List (List ℕ)) (before after : History) (stored : List NamedFile)
    (a : Answered) : Type 0 where
  pub end : WordsEnd
  pub by : EndsFor words end
  pub taken : takes_words words ≡ true → EndsTaken words end
  pub answer : IsEndAnswer end a
  pub none_stored : stored ≡ []
  pub none_loaded : after ≡ before

-- the words mean a command, which is run
pub record RunsCommand (files : Option Files) (words : List (List ℕ)) (before after : History) (stored : List NamedFile)
    (a : Answered) : Type 0 where
  pub command : CommandWords
  pub meant : Means words command
  pub taken : faults_of words ≡ []
  pub run : RunsAsAsked files words command (record_name_of command) before after stored a

-- The answer to words, and the files that were stored: that of the command that they mean, or the end that they come
-- to. Words that clap takes mean a command, so they end neither in help, nor in the version, nor in usage; but words
-- that give an option without its partner end in usage. A growth may be refused before anything is stored.
abbrev pub IsRunAnswer : Option Files → List (List ℕ) → History → History → List NamedFile → Answered → Type 0
IsRunAnswer files words before after stored a =
    IsOutOfMemory stored a ⊎ (EndsAtWords words before after stored a ⊎ RunsCommand files words before after stored a)

-- the command's state has two digits
abbrev pub HasState : CommandWords → Type 0
HasState (Size words) = words.state ≤ 99
HasState (Judge words) = words.problem.common.state ≤ 99
HasState (Solve words) = words.problem.common.state ≤ 99
HasState (Check words) = words.check.problem.common.state ≤ 99
HasState (Audit words) = words.problem.common.state ≤ 99
HasState (ListAll words) = words.check.problem.common.state ≤ 99
HasState (Share words) = words.board.problem.common.state ≤ 99
HasState (Piece words) = words.board.problem.common.state ≤ 99
HasState (Worker words) = words.problem.common.state ≤ 99
