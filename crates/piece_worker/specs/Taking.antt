-- What one call does to a worker that reads texts from a source.
use Rattle.std.specs.Prelude.{ℕ, ◌≡◌, ◌⊎◌, Bool, List, [], ◌∷◌, Option, Some, None, Result, Ok, Err}
use Rattle.grouping_laws.specs.Problem.{Problem}
use Rattle.field_lines.specs.Source.{Given}
use Rattle.certificate_lines.specs.Rest.{IsTextMemory}
use Rattle.certificate_lines.specs.declared.fault.TextFault.{TextFault}
use Rattle.worker_texts.specs.RoundText.{RoundTold}
use Rattle.worker_texts.specs.TextValue.{worker_text_of}
use Rattle.worker_texts.specs.Coming.{ReadsNext, IsPrompt}
use Rattle.worker_texts.specs.declared.worker_text.WorkerText.{WorkerText}
use Rattle.written_output.specs.Writing.{IsWritten}
use Rattle.written_output.specs.declared.written.Written.{Written}
use Rattle.piece_worker.specs.Rounds.{HoldsRound}
use Rattle.piece_worker.specs.Answers.{AnswersTexts}
use Rattle.piece_worker.specs.declared.worker.Worker.{Worker}
use Rattle.piece_worker.specs.declared.reply.Reply.{Reply}
use Rattle.piece_worker.specs.declared.reply.Reply.TheVariants.{Taken, Ended}

-- a moment: the worker, what the source gave so far, what the sink holds, whether its last write failed, and what was
-- written
pub record Moment (C : Type 0) : Type 0 where
  pub worker : Worker C
  pub given : Given
  pub contents : Option (List ℕ)
  pub failed : Bool
  pub written : Written

abbrev pub moment : {C : Type 0} → Worker C → Given → Option (List ℕ) → Bool → Written → Moment C
moment worker given contents failed written =
    record { worker = worker; given = given; contents = contents; failed = failed; written = written }

-- the worker holds the round that it held, and nothing was written
pub record IsQuiet {C : Type 0} (old new : Moment C) : Type 0 where
  pub last : new.worker.last ≡ old.worker.last
  pub none : IsWritten old.contents new.contents old.failed new.failed old.written new.written []

-- this was read: a text, the end or a fault
abbrev pub Reads : {C : Type 0} → Moment C → Moment C → Result (Option WorkerText) TextFault → Type 0
Reads old new answer = ReadsNext old.worker.reader old.given new.given answer new.worker.reader

-- this was read in place of a text, and all else is as before
abbrev pub TakesNone : {C : Type 0} → Moment C → Moment C → Result (Option WorkerText) TextFault → Type 0
TakesNone old new answer = Reads old new answer × IsQuiet old new

-- a text was read, and at most the bytes of one pull stand behind it
pub record ReadsOne {C : Type 0} (old new : Moment C) : Type 0 where
  pub text : WorkerText
  pub reads : Reads old new (Ok (Some text))
  pub prompt : IsPrompt 65536 old.given new.given (Ok (Some text)) new.worker.reader

-- what is said of the text was written, and the worker holds the round that was told last
pub record Tells {C : Type 0} (p : Problem) (last : Option RoundTold) (text : WorkerText) (old new : Moment C) : Type 0
  where
    pub said : List ℕ
    pub end : Option RoundTold
    pub answers : AnswersTexts p last (worker_text_of text ∷ []) said end
    pub holds : HoldsRound p end new.worker.last
    pub written : IsWritten old.contents new.contents old.failed new.failed old.written new.written said

-- a text was read and answered
abbrev pub TakesOne : {C : Type 0} → Problem → Option RoundTold → Moment C → Moment C → Type 0
TakesOne p last old new = (one : ReadsOne old new) × Tells p last one.text old new

-- The next text was answered, or the source has ended, or a fault came. Memory may be refused to a text that was read,
-- and then the worker holds the round that it held, and nothing was written.
abbrev pub TakesNext : {C : Type 0} → Problem → Option RoundTold → Moment C → Moment C → Result Reply TextFault → Type 0
TakesNext p last old new (Ok Taken) = TakesOne p last old new
TakesNext p last old new (Ok Ended) = TakesNone old new (Ok None)
TakesNext p last old new (Err fault) =
    TakesNone old new (Err fault) ⊎ (IsTextMemory fault × ReadsOne old new × IsQuiet old new)
