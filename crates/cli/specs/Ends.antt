-- What calls of the code came to, as the definitions say it.
use Rattle.std.specs.Prelude.{Option, Some, None, Result, Ok, Err}
use Rattle.std.specs.declared.alloc.AllocError.{AllocError}
use Rattle.cli_answers.specs.declared.answer.RunAnswer.{RunAnswer}
use Rattle.cli_answers.specs.declared.answer.Refusal.{Refusal}
use Rattle.cli_answers.specs.declared.answer.Refusal.TheVariants.{Shown, Memory}
use Rattle.cli_answers.specs.Answer.{Answered, memory_answer}
use Rattle.cli_answers.specs.Answers.{answer_of}

-- the answer that a call came to: where a growth was refused, the line for it
abbrev pub said_of : Result RunAnswer AllocError → Answered
said_of (Ok a) = answer_of a
said_of (Err e) = memory_answer

-- the answer to what a call refused, if it did
abbrev pub refusal_by : Result (Unit {0}) Refusal → Option Answered
refusal_by (Ok x) = None
refusal_by (Err (Shown a)) = Some (answer_of a)
refusal_by (Err Memory) = Some memory_answer
