-- What calls came to that write as they go on.
use Rattle.std.specs.Prelude.{◌≡◌, ◌⊎◌, ℕ, List, [], Result, Ok, Err}
use Rattle.cli_file_stores.specs.History.{History}
use Rattle.cli_answers.specs.declared.answer.RunAnswer.{RunAnswer}
use Rattle.cli_answers.specs.declared.answer.Refusal.{Refusal}
use Rattle.cli_answers.specs.Answers.{AnswerMeets, said_by}
use Rattle.run_laws.specs.Steps.{Steps}
use Rattle.run_laws.specs.WorkerSteps.{WorkerRun}

-- the steps stopped before anything was written, unless memory was refused
abbrev pub StopsSilently : {X : Type 0} → Steps X → History → History → List ℕ → Refusal → Type 0
StopsSilently steps before after text refusal =
    (text ≡ []) × AnswerMeets refusal (λ a. steps before after (Err a))

-- the steps of `worker` came to this answer, and this text was written meanwhile
abbrev pub WorkerDone : Steps WorkerRun → History → History → List ℕ → Result RunAnswer Refusal → Type 0
WorkerDone steps before after text result =
    (s : WorkerRun) × steps before after (Ok s) × (s.text ≡ text) × (s.end ≡ said_by result)

abbrev pub ProvesBy : Steps WorkerRun → History → History → List ℕ → Result RunAnswer Refusal → Type 0
ProvesBy steps before after text (Ok answer) = WorkerDone steps before after text (Ok answer)
ProvesBy steps before after text (Err refusal) =
    StopsSilently steps before after text refusal ⊎ WorkerDone steps before after text (Err refusal)
