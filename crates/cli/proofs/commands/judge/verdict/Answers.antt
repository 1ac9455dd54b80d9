use Rattle.std.proofs.Common.{◌≡◌, refl}
use Rattle.cli_answers.specs.declared.answer.Refusal.{Refusal}
use Rattle.cli_answers.specs.declared.answer.Refusal.TheVariants.{Shown, Memory}
use Rattle.cli_answers.specs.Answer.{Answered}
use Rattle.cli_answers.specs.Answers.{answer_of, AnswerMeets, RefusalShows}
use Rattle.cli.proofs.commands.judge.verdict.Goals as goal

-- a refusal that shows an answer meets what holds of it
shown_meets : (refusal : Refusal) (want : Answered) (P : Answered → Type 0) → RefusalShows want refusal → ((a : Answered) → a ≡ want → P a) → AnswerMeets refusal P
shown_meets (Shown a) want P shows holds = holds (answer_of a) shows
shown_meets Memory want P shows holds = tt

pub returns : goal.returns
returns c = λ history.
    shown_meets c.refusal_in.result _ _ (c.refusal_in.ensures _ c.refuse_verdict.ensures) (λ a is. (refl, (c.in-Err.fault, c.in-Err.ensures.fault, is)))
