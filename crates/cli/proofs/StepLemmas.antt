-- What calls come to that load files one after the other, over the states of a file store.
use Rattle.std.proofs.Common.{◌≡◌, ℕ, List, Option, Some, Bor, subst, sym}
use Rattle.std.specs.Prelude.{Result, Ok, Err}
use Rattle.std.specs.Result.{IsErrAnd}
use Rattle.cli_file_stores.specs.Files.{Files}
use Rattle.cli_file_stores.specs.History.{History}
use Rattle.cli_answers.specs.declared.answer.Refusal.{Refusal}
use Rattle.cli_answers.specs.Answer.{Answered}
use Rattle.cli_answers.specs.Answers.{Comes, AnswerMeets}
use Rattle.run_laws.specs.Steps.{Steps, ◌>>=◌, optional_step}
use Rattle.run_laws.proofs.RunLemmas.{came, handed_on, went_on}

module _ {H : Type 0} (contents : H → Option Files) (history : H → History) where
  -- the first call gave a value and left the files as they were, and the others ended
  pub gave : {X Y : Type 0} (end : Result Y Answered) (first : Option Files → Steps X) (next : Option Files → X → Steps Y) (value : X) (s t u : H) → first (contents s) (history s) (history t) (Ok value) → contents t ≡ contents s
      → next (contents t) value (history t) (history u) end → (first (contents s) >>= next (contents s)) (history s) (history u) end
  gave end first next value s t u given same later =
      came (first (contents s)) (next (contents s)) value (history s) (history t) (history u) end given (subst (λ (f : Option Files). next f value (history t) (history u) end) same later)

module _ {H : Type 0} (contents : H → Option Files) (history : H → History) {S Y : Type 0} (show : S → Y) where
  -- the same of what a call came to that has these steps
  pub stepped : {X : Type 0} (end : Result S Refusal) (first : Option Files → Steps X) (next : Option Files → X → Steps Y) (value : X) (s t u : H) → first (contents s) (history s) (history t) (Ok value) → contents t ≡ contents s
      → Comes show end (next (contents t) value (history t) (history u)) → Comes show end ((first (contents s) >>= next (contents s)) (history s) (history u))
  stepped end first next value s t u given same later =
      went_on show end (first (contents s)) (next (contents s)) value (history s) (history t) (history u) given
      (subst (λ (f : Option Files). Comes show end (next f value (history t) (history u))) same later)

  -- the first call was refused, and its refusal is handed on
  pub stopped : {X : Type 0} (end : Result S Refusal) (first : Option Files → Steps X) (next : Option Files → X → Steps Y) (refusal : Refusal) (s t : H) → IsErrAnd end (λ e. e ≡ refusal)
      → AnswerMeets refusal (λ a. first (contents s) (history s) (history t) (Err a)) → Comes show end ((first (contents s) >>= next (contents s)) (history s) (history t))
  stopped end first next refusal s t is met = handed_on show refusal end (first (contents s)) (next (contents s)) (history s) (history t) is met

  -- steps with a file that is named
  pub when_named : (end : Result S Refusal) (value : Y) (steps : List ℕ → Steps Y) (name : Option (Bor (List ℕ))) (n : Bor (List ℕ)) (s t : H) → name ≡ Some n
      → Comes show end (steps n.now (history s) (history t)) → Comes show end (optional_step value steps name (history s) (history t))
  when_named end value steps name n s t is came = subst (λ (m : Option (Bor (List ℕ))). Comes show end (optional_step value steps m (history s) (history t))) (sym is) came
