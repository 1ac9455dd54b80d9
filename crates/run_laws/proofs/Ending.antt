-- What steps whose files are stored came to, where they end with a status of an answer.
use Rattle.std.proofs.Common.{◌≡◌, ◌≤◌, ◌⊎◌, List, Option, Some, None, inl, inr, refl, ap, ◌∙◌, arith}
use Rattle.std.specs.Prelude.{Ok, Err}
use Rattle.cli_file_stores.specs.Files.{NamedFile}
use Rattle.cli_file_stores.specs.History.{History}
use Rattle.cli_answers.specs.Answer.{Answered, memory_answer}
use Rattle.run_laws.specs.Steps.{Steps}
use Rattle.run_laws.specs.Storing.{EndsStoring, store_steps, said_after}
use Rattle.run_laws.proofs.Refusing.{IsRefusal, Refuses}
use Rattle.run_laws.proofs.StoreLemmas.{StoresThenAnswers, refusal_status, all_stored}

pub same_status : (a b : Answered) → a ≡ b → a.status ≡ b.status
same_status a b e = ap (λ (x : Answered). x.status) e

-- no refusal has status 0, 1 or 3
pub not_refused : (a : Answered) → a.status ≤ 3 → IsRefusal a → ⊥
not_refused a low (inl s) = omega arith
not_refused a low (inr s) = omega arith

pub not_out_of_memory : (a : Answered) → a.status ≤ 3 → a ≡ memory_answer → ⊥
not_out_of_memory a low is = not_refused a low (inr (same_status a memory_answer is))

-- they came to a value, all its files were stored, and its answer was said
pub record HasEnded {S : Type 0} (steps : Steps S) (files_of : S → List NamedFile) (answer : S → Answered) (before : History) (stored : List NamedFile) (a : Answered) : Type 0 where
  pub s : S
  pub between : History
  pub given : steps before between (Ok s)
  pub all : stored ≡ files_of s
  pub said : a ≡ answer s

-- steps after whose files something is said, with the status of the file that was refused
module _ {S : Type 0} (steps : Steps S) (files_of : S → List NamedFile) (say : S → Option Answered → Answered) (same : (s : S) (refusal : Answered) → (say s (Some refusal)).status ≡ refusal.status)
    (before after : History) (stored : List NamedFile) (a : Answered) (low : a.status ≤ 3) where
  said_with : (s : S) (between : History) (refusal : Option Answered) → steps before between (Ok s) → store_steps (files_of s) between after stored refusal
      → a ≡ say s refusal → HasEnded steps files_of (λ s. say s None) before stored a
  said_with s between None given stores said = record { s = s; between = between; given = given; all = all_stored (files_of s) between after stored stores; said = said }
  said_with s between (Some refusal) given stores said =
      absurd (not_refused a low (inr (same_status a (say s (Some refusal)) said ∙ same s refusal ∙ refusal_status (files_of s) between after stored refusal stores)))

  -- they stopped, or they came to a value
  pub stopped_or_said : StoresThenAnswers steps files_of say before after stored a → steps before after (Err a) ⊎ HasEnded steps files_of (λ s. say s None) before stored a
  stopped_or_said (inl stop) = inl stop.0
  stopped_or_said (inr h) = inr (said_with h.0 h.1 h.2 h.3 h.4 h.5)

  -- steps that stop in refusals alone came to a value
  pub has_said : Refuses steps → StoresThenAnswers steps files_of say before after stored a → HasEnded steps files_of (λ s. say s None) before stored a
  has_said refuses (inl stop) = absurd (not_refused a low (refuses before after a stop.0))
  has_said refuses (inr h) = said_with h.0 h.1 h.2 h.3 h.4 h.5

module _ {S : Type 0} (steps : Steps S) (files_of : S → List NamedFile) (answer : S → Answered) (before after : History) (stored : List NamedFile) (a : Answered) (low : a.status ≤ 3) where
  -- the same where the answer to a file that was refused is said alone
  pub stopped_or_ended : EndsStoring steps files_of answer before after stored a → steps before after (Err a) ⊎ HasEnded steps files_of answer before stored a
  stopped_or_ended h = stopped_or_said steps files_of (λ s refusal. said_after refusal (answer s)) (λ s refusal. refl) before after stored a low h

  pub has_ended : Refuses steps → EndsStoring steps files_of answer before after stored a → HasEnded steps files_of answer before stored a
  has_ended refuses h = has_said steps files_of (λ s refusal. said_after refusal (answer s)) (λ s refusal. refl) before after stored a low refuses h
