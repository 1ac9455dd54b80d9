-- What a run of a command that stores files comes to, by its parts.
use Rattle.std.proofs.Common.{◌≡◌, ◌⊎◌, ◌++◌, ℕ, List, [], Option, Some, None, inl, inr, refl, sym, ap, subst, ◌∙◌}
use Rattle.std.specs.Prelude.{Result, Ok, Err, option_map}
use Rattle.std.specs.Borrow.{Bor}
use Rattle.std.specs.Option.{option_copied}
use Rattle.std.specs.Result.{IsErrAnd}
use Rattle.cli_file_stores.specs.Files.{NamedFile, Files}
use Rattle.cli_file_stores.specs.History.{History}
use Rattle.cli_answers.specs.declared.answer.RunAnswer.{RunAnswer}
use Rattle.cli_answers.specs.declared.answer.Refusal.{Refusal}
use Rattle.cli_answers.specs.declared.answer.Refusal.TheVariants.{Shown, Memory}
use Rattle.cli_answers.specs.Answer.{Answered, memory_answer}
use Rattle.cli_answers.specs.Answers.{answer_of, said_by, AnswerMeets}
use Rattle.run_laws.specs.Steps.{Steps}
use Rattle.run_laws.specs.Storing.{EndsStoring, HasStored, named_file, said_after, store_steps}
use Rattle.run_laws.specs.Run.{IsOutOfMemory}
use Rattle.run_laws.proofs.StoreLemmas.{none_stored, stored_after, stores_on, stops_in}
use Rattle.cli.specs.Ends.{refusal_by}

-- what is seen of a value that is lent is what is seen of the value
pub seen_lent : {X Y : Type 0} (f : X → Y) (lent : Option (Bor X)) → option_map f (option_copied lent) ≡ option_map (λ t. f t.now) lent
seen_lent f None = refl
seen_lent f (Some t) = refl

-- the file store was as it was until the files were stored
pub from_start : (files files_then after : Option Files) (listed listed_then last : Option (List NamedFile)) (stored : List NamedFile)
    → files_then ≡ files → listed_then ≡ listed → HasStored files_then after listed_then last stored → HasStored files after listed last stored
from_start files files_then after listed listed_then last stored same kept h =
    subst (λ (f : Option Files). HasStored f after listed last stored) same (subst (λ (l : Option (List NamedFile)). HasStored files_then after l last stored) kept h)

module _ {S : Type 0} (steps : Steps S) (files_of : S → List NamedFile) (answer : S → Answered) where
  -- a run of the steps, whose files are stored; a growth may be refused
  abbrev pub Runs : History → History → List NamedFile → Answered → Type 0
  Runs before after stored a = IsOutOfMemory stored a ⊎ EndsStoring steps files_of answer before after stored a

  -- it ends at a fault, before anything is stored
  pub refused_run : (before after : History) (refusal : Refusal) (end : Result RunAnswer Refusal)
      → IsErrAnd end (λ e. e ≡ refusal) → AnswerMeets refusal (λ a. steps before after (Err a)) → Runs before after [] (said_by end)
  refused_run before after refusal (Ok a) i h = absurd i
  refused_run before after (Shown a) (Err e) i h = subst (λ (r : Refusal). Runs before after [] (said_by (Err r))) (sym i) (inr (inl (h, refl)))
  refused_run before after Memory (Err e) i h = subst (λ (r : Refusal). Runs before after [] (said_by (Err r))) (sym i) (inl (refl, refl))

  -- or at a file that was refused
  pub stopped_run : (s : S) (before between after : History) (stored : List NamedFile) (refusal : Refusal) (end : Result RunAnswer Refusal)
      → IsErrAnd end (λ e. e ≡ refusal) → steps before between (Ok s) → store_steps (files_of s) between after stored (refusal_by (Err refusal))
      → Runs before after stored (said_by end)
  stopped_run s before between after stored refusal (Ok a) i h k = absurd i
  stopped_run s before between after stored (Shown a) (Err e) i h k =
      subst (λ (r : Refusal). Runs before after stored (said_by (Err r))) (sym i) (inr (inr (s, between, Some (answer_of a), h, k, refl)))
  stopped_run s before between after stored Memory (Err e) i h k =
      subst (λ (r : Refusal). Runs before after stored (said_by (Err r))) (sym i) (inr (inr (s, between, Some memory_answer, h, k, refl)))

  -- or with all its files stored
  pub ended_run : (s : S) (before between after : History) (stored : List NamedFile) → steps before between (Ok s) → store_steps (files_of s) between after stored None
      → Runs before after stored (answer s)
  ended_run s before between after stored h k = inr (inr (s, between, None, h, k, refl))

  -- or with its answer, unless a file was refused
  pub said_run : (s : S) (before between after : History) (stored : List NamedFile) (refusal : Option Answered) (a : Answered) → steps before between (Ok s)
      → store_steps (files_of s) between after stored refusal → a ≡ said_after refusal (answer s) → Runs before after stored a
  said_run s before between after stored refusal a h k said = inr (inr (s, between, refusal, h, k, said))

-- what is refused is said
pub refused_said : (refusal : Refusal) (a : Answered) → said_by (Err refusal) ≡ said_after (refusal_by (Err refusal)) a
refused_said (Shown s) a = refl
refused_said Memory a = refl

-- files of which one is refused, with others behind them
pub stops_with : (xs ys : List NamedFile) (before after : History) (stored : List NamedFile) (refusal : Refusal) (end : Result (Unit {0}) Refusal)
    → IsErrAnd end (λ e. e ≡ refusal) → store_steps xs before after stored (refusal_by (Err refusal)) → store_steps (xs ++ ys) before after stored (refusal_by end)
stops_with xs ys before after stored refusal (Ok x) i h = absurd i
stops_with xs ys before after stored (Shown a) (Err e) i h =
    subst (λ (r : Refusal). store_steps (xs ++ ys) before after stored (refusal_by (Err r))) (sym i) (stops_in xs ys before after stored (answer_of a) h)
stops_with xs ys before after stored Memory (Err e) i h =
    subst (λ (r : Refusal). store_steps (xs ++ ys) before after stored (refusal_by (Err r))) (sym i) (stops_in xs ys before after stored memory_answer h)

-- ---- files that are stored, over the states of a file store

module _ {H : Type 0} (contents : H → Option Files) (history : H → History) (stored_in : H → Option (List NamedFile)) where
  -- files were stored from one state to another, up to the one that was refused
  abbrev pub Stores : List NamedFile → H → H → Option Answered → Type 0
  Stores files s u refusal = (stored : List NamedFile) × HasStored (contents s) (contents u) (stored_in s) (stored_in u) stored × store_steps files (history s) (history u) stored refusal

  -- the file of a value that was lent
  pub lent_stored : {X : Type 0} (f : X → List ℕ) (name : Option (Bor (List ℕ))) (lent : Option (Bor X)) (held : Option X) (s u : H) (refusal : Option Answered) → option_copied lent ≡ held
      → Stores (named_file name (option_map (λ t. f t.now) lent)) s u refusal → Stores (named_file name (option_map f held)) s u refusal
  lent_stored f name lent held s u refusal is h =
      subst (λ (text : Option (List ℕ)). Stores (named_file name text) s u refusal) (sym (seen_lent f lent) ∙ ap (option_map f) is) h

  -- files, and others behind them
  pub stores_both : (xs ys : List NamedFile) (s t u : H) (end : Option Answered) → Stores xs s t None → Stores ys t u end → Stores (xs ++ ys) s u end
  stores_both xs ys s t u end h k = (
    h.0 ++ k.0,
    stored_after (contents s) (contents t) (contents u) (stored_in s) (stored_in t) (stored_in u) h.0 k.0 h.1 k.1,
    stores_on xs ys (history s) (history t) (history u) h.0 k.0 end h.2 k.2,
  )

  pub stores_stopped : (xs ys : List NamedFile) (s t : H) (refusal : Refusal) (end : Result (Unit {0}) Refusal) → IsErrAnd end (λ e. e ≡ refusal) → Stores xs s t (refusal_by (Err refusal)) → Stores (xs ++ ys) s t (refusal_by end)
  stores_stopped xs ys s t refusal end is h = (h.0, h.1, stops_with xs ys (history s) (history t) h.0 refusal end is h.2)

-- ---- a command that stores files, over the states of a file store

module _ {H S : Type 0} (contents : H → Option Files) (history : H → History) (stored_in : H → Option (List NamedFile)) (steps : Option Files → Steps S) (files_of : S → List NamedFile) (answer : S → Answered) where
  -- what it stored from one state to another, and what its run came to
  abbrev pub EndsIn : H → H → Answered → Type 0
  EndsIn s u a = (stored : List NamedFile) × HasStored (contents s) (contents u) (stored_in s) (stored_in u) stored × Runs (steps (contents s)) files_of answer (history s) (history u) stored a

  -- it met a fault before anything was stored
  pub refused_first : (s t : H) (refusal : Refusal) (end : Result RunAnswer Refusal) → contents t ≡ contents s → stored_in t ≡ stored_in s
      → IsErrAnd end (λ e. e ≡ refusal) → AnswerMeets refusal (λ a. steps (contents s) (history s) (history t) (Err a)) → EndsIn s t (said_by end)
  refused_first s t refusal end same kept is met =
      ([], none_stored (contents s) (contents t) (stored_in s) (stored_in t) same kept, refused_run (steps (contents s)) files_of answer (history s) (history t) refusal end is met)

  module _ (s t u : H) (value : S) (same : contents t ≡ contents s) (kept : stored_in t ≡ stored_in s) (given : steps (contents s) (history s) (history t) (Ok value)) where
    -- its files were stored, unless one was refused
    abbrev pub StoresIn : Option Answered → Type 0
    StoresIn refusal = Stores contents history stored_in (files_of value) t u refusal

    pub stored_or_not : (refusal : Option Answered) (a : Answered) → a ≡ said_after refusal (answer value) → StoresIn refusal → EndsIn s u a
    stored_or_not refusal a is end = (
      end.0,
      from_start (contents s) (contents t) (contents u) (stored_in s) (stored_in t) (stored_in u) end.0 same kept end.1,
      said_run (steps (contents s)) files_of answer value (history s) (history t) (history u) end.0 refusal a given end.2 is,
    )

    pub file_refused : (refusal : Refusal) → StoresIn (refusal_by (Err refusal)) → EndsIn s u (said_by (Err refusal))
    file_refused refusal = stored_or_not (refusal_by (Err refusal)) (said_by (Err refusal)) (refused_said refusal (answer value))

    pub all_in : (a : Answered) → a ≡ answer value → StoresIn None → EndsIn s u a
    all_in a is = stored_or_not None a is
