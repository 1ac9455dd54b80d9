-- Texts that are read from a source, and what is written of them in turn.
use Rattle.std.specs.Prelude.{ℕ, ◌≡◌, ◌+◌, ◌<◌, ◌^◌, ◌⊎◌, true, List, [], ◌++◌, Option, Result, Ok, Err}
use Rattle.std.specs.List.{AllByRecursion, flat_map}
use Rattle.grouping_laws.specs.Problem.{Problem}
use Rattle.field_lines.specs.Source.{Given}
use Rattle.certificate_lines.specs.Rest.{IsTextMemory}
use Rattle.certificate_lines.specs.declared.fault.TextFault.{TextFault}
use Rattle.worker_texts.specs.RoundText.{RoundTold}
use Rattle.worker_texts.specs.WorkerText.{WorkerTextTold, text_of, HasWorkerText}
use Rattle.worker_texts.specs.Coming.{Held, PullsOnto, TakesText, TellsFault, lines_in}
use Rattle.written_output.specs.Writing.{IsWritten}
use Rattle.piece_worker.specs.Rounds.{HoldsRound}
use Rattle.piece_worker.specs.Answers.{AnswersTexts}
use Rattle.piece_worker.specs.Taking.{Moment}

-- the texts that a worker is told, one behind the other
abbrev pub text_of_all : List WorkerTextTold → List ℕ
text_of_all texts = flat_map text_of texts

-- The texts were read from what was held and what the source gave meanwhile, and answered. The bytes behind them are
-- left.
pub record AnswersFrom (p : Problem) (last : Option RoundTold) (held : Held) (from to : Given) (text : List ℕ)
    (end : Option RoundTold) (left : Held) : Type 0 where
  pub texts : List WorkerTextTold
  pub answers : AnswersTexts p last texts text end
  pub bytes : List ℕ
  pub pulls : PullsOnto from to held.bytes bytes
  pub read : bytes ≡ text_of_all texts ++ left.bytes
  pub spelled : AllByRecursion HasWorkerText texts
  pub lines : held.lines + lines_in (text_of_all texts) < 2 ^ 64
      → left.lines ≡ held.lines + lines_in (text_of_all texts)

-- memory was refused to the text behind those that were answered, and it was read
pub record IsUnanswered {C : Type 0} (left : Held) (new : Moment C) : Type 0 where
  pub told : WorkerTextTold
  pub takes : TakesText left told new.worker.reader

-- how it ends: the source has ended and all of it was read, or a fault came
abbrev pub EndsBy : {C : Type 0} → Held → Moment C → Result (Unit {0}) TextFault → Type 0
EndsBy left new (Ok done) = (new.worker.reader ≡ left) × (new.given.ended ≡ true) × (left.bytes ≡ [])
EndsBy left new (Err fault) =
    TellsFault left new.given.ended fault new.worker.reader ⊎ (IsTextMemory fault × IsUnanswered left new)

-- Texts were read and answered, until it ended so. The worker holds the round that was told last.
pub record HasAnswered {C : Type 0} (p : Problem) (last : Option RoundTold) (old new : Moment C)
    (result : Result (Unit {0}) TextFault) : Type 0 where
  pub text : List ℕ
  pub end : Option RoundTold
  pub left : Held
  pub serves : AnswersFrom p last old.worker.reader old.given new.given text end left
  pub holds : HoldsRound p end new.worker.last
  pub written : IsWritten old.contents new.contents old.failed new.failed old.written new.written text
  pub ends : EndsBy left new result
