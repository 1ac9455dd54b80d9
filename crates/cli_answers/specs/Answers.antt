-- Answers and refusals of the code as those of the definitions.
use Rattle.std.specs.Prelude.{◌≡◌, ⊤, Result, Ok, Err}
use Rattle.cli_answers.specs.declared.answer.RunAnswer.{RunAnswer}
use Rattle.cli_answers.specs.declared.answer.Refusal.{Refusal}
use Rattle.cli_answers.specs.declared.answer.Refusal.TheVariants.{Shown, Memory}
use Rattle.cli_answers.specs.Answer.{Answered, memory_answer}

-- the answer's text and status
abbrev pub answer_of : RunAnswer → Answered
answer_of a = record { text = a.text.items; status = a.status }

-- a refusal shows this answer, unless memory was refused
abbrev pub RefusalShows : Answered → Refusal → Type 0
RefusalShows want (Shown a) = answer_of a ≡ want
RefusalShows want Memory = ⊤

-- an answer is shown
abbrev pub IsShown : Refusal → Type 0
IsShown (Shown a) = ⊤
IsShown Memory = ⊥

-- P holds of the answer that is shown; of want of memory nothing is said
abbrev pub AnswerMeets : Refusal → (Answered → Type 0) → Type 0
AnswerMeets (Shown a) P = P (answer_of a)
AnswerMeets Memory P = ⊤

-- a call came to one of the ends that R takes, unless memory was refused
abbrev pub Comes : {T X : Type 0} → (T → X) → Result T Refusal → (Result X Answered → Type 0) → Type 0
Comes view (Ok value) R = R (Ok (view value))
Comes view (Err refusal) R = AnswerMeets refusal (λ a. R (Err a))

-- the answer that a call came to: what was refused shows its own, and memory the program's line for it
abbrev pub said_by : Result RunAnswer Refusal → Answered
said_by (Ok a) = answer_of a
said_by (Err (Shown a)) = answer_of a
said_by (Err Memory) = memory_answer
