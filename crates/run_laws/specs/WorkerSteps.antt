-- The steps of `worker`: the problem is built, and the pieces that standard input tells are proved, one after the
-- other.
use Rattle.std.specs.Prelude.{◌≡◌, ◌⊎◌, ◌++◌, ℕ, Bool, List, [], Option, None, Result, Ok, Err}
use Rattle.std.specs.List.{AllByRecursion, flat_map}
use Rattle.county_problem.specs.ProblemValue.{ProblemValue, problem_of}
use Rattle.certificate_lines.specs.declared.fault.TextFault.{TextFault}
use Rattle.worker_texts.specs.RoundText.{RoundTold}
use Rattle.worker_texts.specs.WorkerText.{WorkerTextTold, text_of, HasWorkerText}
use Rattle.worker_texts.specs.Coming.{Held, TellsFault}
use Rattle.piece_worker.specs.Answers.{AnswersTexts}
use Rattle.cli_words.specs.Words.{standard_input}
use Rattle.cli_words.specs.declared.words.WorkerWords.{WorkerWords}
use Rattle.cli_file_stores.specs.declared.file_store.ReadEnd.{ReadEnd}
use Rattle.cli_file_stores.specs.declared.file_store.ReadEnd.TheVariants.{Whole}
use Rattle.cli_file_stores.specs.declared.file_store.FileStoreFault.{FileStoreFault}
use Rattle.cli_file_stores.specs.FileStore.{read_end}
use Rattle.cli_file_stores.specs.Files.{NamedFile, Files}
use Rattle.cli_file_stores.specs.History.{History}
use Rattle.cli_answers.specs.Answer.{Answered, success, memory_answer}
use Rattle.cli_answers.specs.Refusals.{pieces_answer, file_store_answer}
use Rattle.run_laws.specs.Steps.{Steps, ◌>>=◌, value_step}
use Rattle.run_laws.specs.Reading.{GivenBack, read_one}
use Rattle.run_laws.specs.ProblemSteps.{problem_steps}
use Rattle.run_laws.specs.Spoken.{behind}

-- what a worker came to: what it wrote as it went on, and its answer
pub record WorkerRun : Type 0 where
  pub text : List ℕ
  pub end : Answered

-- A worker read the texts that these bytes spell, and wrote this text meanwhile.
pub record HasProved (v : ProblemValue) (bytes text : List ℕ) (left : Held) : Type 0 where
  pub texts : List WorkerTextTold
  pub spelled : AllByRecursion HasWorkerText texts
  pub read : bytes ≡ flat_map text_of texts ++ left.bytes
  pub last : Option RoundTold
  pub answers : AnswersTexts (problem_of v) None texts text last

-- why a worker ends: the texts ended, a line is no text, standard input could not be read, or a growth was refused
pub record WorkerRefused (left : Held) (back : Result ReadEnd FileStoreFault) (end : Answered) : Type 0 where
  pub fault : TextFault
  pub ended : Bool
  pub back_is : back ≡ Ok (read_end ended)
  pub told : TellsFault left ended fault left
  pub answer : end ≡ pieces_answer fault

abbrev pub WorkerStops : Held → Result ReadEnd FileStoreFault → Answered → Type 0
WorkerStops left back end =
    ((back ≡ Ok Whole) × (left.bytes ≡ []) × (end ≡ success []))
    ⊎ (WorkerRefused left back end
    ⊎ (((fault : FileStoreFault) × (back ≡ Err fault) × (end ≡ file_store_answer standard_input fault))
    ⊎ (end ≡ memory_answer)))

-- what a worker came to whose reader gave these bytes and was given back
abbrev pub IsWorkerRun : ProblemValue → GivenBack → WorkerRun → Type 0
IsWorkerRun v given s =
    (left : Held) × HasProved v given.bytes s.text left × WorkerStops left given.answer s.end

-- a worker reads standard input once
abbrev pub texts_steps : Option Files → ProblemValue → Steps WorkerRun
texts_steps files v = read_one files standard_input >>= λ given. value_step (IsWorkerRun v given)

-- `worker`: the problem is built before standard input is opened
abbrev pub worker_steps : Option Files → WorkerWords → Steps WorkerRun
worker_steps files words = problem_steps files words.problem >>= texts_steps files

-- `worker` ends: at a fault that it met before it wrote anything, or with its answer behind what it wrote
abbrev pub WorkerEnds : Option Files → WorkerWords → History → History → List NamedFile → Answered → Type 0
WorkerEnds files words before after stored a =
    ((worker_steps files words before after (Err a))
    ⊎ ((s : WorkerRun) × worker_steps files words before after (Ok s) × (a ≡ behind s.text s.end)))
    × (stored ≡ [])
