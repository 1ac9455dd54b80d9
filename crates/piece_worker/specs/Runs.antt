-- A worker from its first text to its last.
use Rattle.std.specs.Prelude.{ℕ, ◌≡◌, ◌⊎◌, true, List, [], ◌++◌, None, Option, Result, Ok, Err}
use Rattle.std.specs.List.{AllByRecursion, flat_map}
use Rattle.grouping_laws.specs.Problem.{Problem}
use Rattle.field_lines.specs.Source.{Given}
use Rattle.certificate_lines.specs.Rest.{IsTextMemory}
use Rattle.certificate_lines.specs.declared.fault.TextFault.{TextFault}
use Rattle.worker_texts.specs.RoundText.{RoundTold}
use Rattle.worker_texts.specs.WorkerText.{WorkerTextTold, text_of, HasWorkerText}
use Rattle.worker_texts.specs.Coming.{Held, PullsOnto, TellsFault}
use Rattle.piece_worker.specs.Answers.{AnswersTexts}

-- how it ends: all was read; or a fault of what is left; or memory was refused
abbrev pub WorkerEnds : Held → Given → Result (Unit {0}) TextFault → Type 0
WorkerEnds left to (Ok done) = (to.ended ≡ true) × (left.bytes ≡ [])
WorkerEnds left to (Err fault) = IsTextMemory fault ⊎ TellsFault left to.ended fault left

-- The texts were read from what the source gave meanwhile, and this was said of them. The bytes behind them are left.
pub record IsWorkerRun (p : Problem) (from to : Given) (text : List ℕ) (left : Held)
    (result : Result (Unit {0}) TextFault) : Type 0 where
  pub texts : List WorkerTextTold
  pub bytes : List ℕ
  pub pulls : PullsOnto from to [] bytes
  pub spelled : AllByRecursion HasWorkerText texts
  pub read : bytes ≡ flat_map text_of texts ++ left.bytes
  pub last : Option RoundTold
  pub answers : AnswersTexts p None texts text last
  pub ends : WorkerEnds left to result
