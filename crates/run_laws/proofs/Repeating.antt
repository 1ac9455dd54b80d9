-- Steps over the files that a run was given which end in a value of a kind, or else in an answer of a kind.
use Rattle.std.proofs.Common.{◌≡◌, ℕ, List, [], Option, Some, None, inl, inr, sym, subst, ◌∙◌}
use Rattle.std.specs.Prelude.{Result, Ok, Err}
use Rattle.std.specs.Borrow.{Bor}
use Rattle.cli_file_stores.specs.Files.{Files}
use Rattle.cli_file_stores.specs.History.{History}
use Rattle.cli_answers.specs.Answer.{Answered}
use Rattle.run_laws.specs.Steps.{Steps, ◌>>=◌, load_step, call_step, value_step, optional_step}
use Rattle.run_laws.specs.FilesProblem.{IsReadAsIfNamed}
use Rattle.field_lines.specs.Source.{Given}
use Rattle.field_lines.specs.HeldBytes.{Foresees}
use Rattle.run_laws.specs.Reading.{given_of, given_of_both}
use Rattle.run_laws.proofs.Texts.{CutsOff, load_cuts, given_of_cuts, given_of_both_cuts, given_of_found, given_of_both_found}

-- a value for which P holds, or an answer for which E holds
abbrev pub IsEnd : {X : Type 0} → (X → Type 0) → (Answered → Type 0) → Result X Answered → Type 0
IsEnd P E (Ok value) = P value
IsEnd P E (Err a) = E a

-- the steps end so
abbrev pub EndsBy : {X : Type 0} → (X → Type 0) → (Answered → Type 0) → Steps X → Type 0
EndsBy {X} P E steps = (start end : History) (r : Result X Answered) → steps start end r → IsEnd P E r

-- the steps give this value, or end in an answer for which E holds
abbrev pub Gives : {X : Type 0} → X → (Answered → Type 0) → Steps X → Type 0
Gives value E steps = EndsBy (λ x. x ≡ value) E steps

module _ (E : Answered → Type 0) where
  pub bind_ends : {X Y : Type 0} (P : X → Type 0) (Q : Y → Type 0) (first : Steps X) (next : X → Steps Y)
      → EndsBy P E first → ((x : X) → P x → EndsBy Q E (next x)) → EndsBy Q E (first >>= next)
  bind_ends P Q first next f n start end (Ok y) (inl stop) = absurd stop
  bind_ends P Q first next f n start end (Err a) (inl stop) = f start end (Err a) stop
  bind_ends P Q first next f n start end r (inr g) = n g.value (f start g.between (Ok g.value) g.given) g.between end r g.goes_on

  pub bind_gives : {X Y : Type 0} (x : X) (Q : Y → Type 0) (first : Steps X) (next : X → Steps Y)
      → Gives x E first → EndsBy Q E (next x) → EndsBy Q E (first >>= next)
  bind_gives {X} x Q first next f n = bind_ends (λ (y : X). y ≡ x) Q first next f (λ y same. subst (λ (z : X). EndsBy Q E (next z)) (sym same) n)

  pub call_ends : {X F : Type 0} (P : X → Type 0) (refuse : F → Answered) (R : Result X F → Type 0)
      → ((x : X) → R (Ok x) → P x) → ((fault : F) → R (Err fault) → E (refuse fault)) → EndsBy P E (call_step refuse R)
  call_ends P refuse R some fault start end (Ok x) h = some x h.1
  call_ends P refuse R some fault start end (Err a) h = subst E (sym h.1.2) (fault h.1.0 h.1.1)

  pub value_ends : {X : Type 0} (P Q : X → Type 0) → ((x : X) → Q x → P x) → EndsBy P E (value_step Q)
  value_ends P Q some start end (Ok x) h = some x h.1
  value_ends P Q some start end (Err a) h = absurd h

  -- a step that is a function of what it is given
  pub function_gives : {X F : Type 0} (refuse : F → Answered) (given : Result X F) (x : X) → given ≡ Ok x → Gives x E (call_step refuse (λ r. given ≡ r))
  function_gives {X} {F} refuse given x is = call_ends (λ (y : X). y ≡ x) refuse (λ (r : Result X F). given ≡ r) (λ y e. one_ok y e) (λ fault e. absurd (ok_or_err fault e))
    where
      one_ok : (y : X) → given ≡ Ok y → y ≡ x
      one_ok y e = cc

      ok_or_err : (fault : F) → given ≡ Err fault → ⊥
      ok_or_err fault e = let no : Ok x ≡ Err fault = sym is ∙ e in cc

-- steps over the files that a run was given, where each refusal with status 5 is an answer for which E holds
module _ (E : Answered → Type 0) (five : (a : Answered) → a.status ≡ 5 → E a) (files : Files) where
  cut_ends : {X : Type 0} (P : X → Type 0) (steps : Steps X) → CutsOff steps → ((start end : History) (x : X) → steps start end (Ok x) → P x) → EndsBy P E steps
  cut_ends P steps cuts told start end (Ok x) h = told start end x h
  cut_ends P steps cuts told start end (Err a) h = five a (cuts start end a h)

  one_some : (one : Option (List ℕ)) (bytes more : List ℕ) → one ≡ Some bytes → one ≡ Some more → more ≡ bytes
  one_some one bytes more e f = cc

  pub load_gives : (name text : List ℕ) → files name ≡ Some text → Gives text E (load_step (Some files) name)
  load_gives name text held =
      cut_ends (λ bytes. bytes ≡ text) (load_step (Some files) name) (load_cuts (Some files) name) (λ start end bytes h. one_some (files name) text bytes held h.0)

  -- what is read of a file begins its text
  pub given_begins : (name text : List ℕ) → files name ≡ Some text → EndsBy (λ (given : Given). Foresees given text) E (given_of (Some files) name)
  given_begins name text held = cut_ends (λ (given : Given). Foresees given text) (given_of (Some files) name) (given_of_cuts (Some files) name) (λ start end given h.
      let begun = given_of_found files name start end given h in
      subst (λ (bytes : List ℕ). Foresees given bytes) (one_some (files name) text begun.text held begun.is) begun.sees)

  -- the same of two files
  pub both_begin : (first second x y : List ℕ) → files first ≡ Some x → files second ≡ Some y
      → EndsBy (λ (pair : Given × Given). Foresees pair.0 x × Foresees pair.1 y) E (given_of_both (Some files) first second)
  both_begin first second x y held held_too =
      cut_ends (λ (pair : Given × Given). Foresees pair.0 x × Foresees pair.1 y) (given_of_both (Some files) first second) (given_of_both_cuts (Some files) first second) (λ start end pair h.
      let begun = given_of_both_found files first second start end pair h in (
        subst (λ (bytes : List ℕ). Foresees pair.0 bytes) (one_some (files first) x begun.0.text held begun.0.is) begun.0.sees,
        subst (λ (bytes : List ℕ). Foresees pair.1 bytes) (one_some (files second) y begun.1.text held_too begun.1.is) begun.1.sees,
      ))

  -- steps that read a file that need not be named
  pub optional_gives : {X F : Type 0} (read : List ℕ → Result (List X) F) (steps : List ℕ → Steps (List X)) (name : Option (Bor (List ℕ))) (list : List X)
      → IsReadAsIfNamed read files name list
      → ((file text : List ℕ) → files file ≡ Some text → read text ≡ Ok list → Gives list E (steps file))
      → Gives list E (optional_step [] steps name)
  optional_gives {X} read steps None list is all = value_ends E (λ (x : List X). x ≡ list) (λ x. x ≡ []) (λ x e. e ∙ sym is)
  optional_gives read steps (Some name) list is all = all name.now is.0 is.1 is.2
