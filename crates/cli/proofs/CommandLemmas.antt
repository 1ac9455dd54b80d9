-- What the calls of a run come to together.
use Rattle.std.proofs.Common.{◌≡◌, ℕ, Bool, true, List, [], Option, inl, inr, refl, sym, ap, ◌∙◌, subst}
use Rattle.std.specs.Prelude.{Result, Ok, Err, IfOk}
use Rattle.std.specs.declared.alloc.AllocError.{AllocError}
use Rattle.cli_file_stores.specs.Files.{NamedFile, Files}
use Rattle.cli_file_stores.specs.History.{History}
use Rattle.cli_words.specs.Words.{EndsFor, EndsTaken, Means, faults_of, takes_words}
use Rattle.cli_words.specs.declared.words.CommandWords.{CommandWords}
use Rattle.cli_words.specs.declared.end.WordsEnd.{WordsEnd}
use Rattle.cli_answers.specs.declared.answer.RunAnswer.{RunAnswer}
use Rattle.cli_answers.specs.declared.answer.Refusal.{Refusal}
use Rattle.cli_answers.specs.declared.answer.Refusal.TheVariants.{Shown, Memory}
use Rattle.cli_answers.specs.Answer.{Answered, memory_answer}
use Rattle.cli_answers.specs.Answers.{answer_of, said_by, Comes}
use Rattle.run_laws.specs.Steps.{Steps, StepsEndIn}
use Rattle.run_laws.specs.Spoken.{behind}
use Rattle.run_laws.proofs.StoreLemmas.{none_stored}
use Rattle.run_laws.specs.Storing.{HasStored}
use Rattle.written_output.specs.declared.written.Written.{Written}
use Rattle.written_output.specs.Writing.{IsWritten}
use Rattle.written_output.proofs.Texts.{written_none}
use Rattle.cli_record.specs.RecordFiles.{record_name_of}
use Rattle.run_laws.specs.Forms.{IsShown, form_of_answer, is_refused_line, shown_if, shown_in}
use Rattle.run_laws.specs.Run.{CommandAnswers, CommandEnds, CommandRun, IsEndAnswer, IsRunAnswer, RunsAsAsked}
use Rattle.cli.specs.Ends.{said_of}
use Rattle.cli_words.specs.declared.words.Form.{Form}
use Rattle.cli_words.specs.declared.words.Form.TheVariants.{Codes, Names, Object}

-- a command that stores no file
pub quiet_run : (files : Option Files) (command : CommandWords) (steps : Steps Answered) (before after : History) (end : Result RunAnswer Refusal)
    → ((a : Answered) → StepsEndIn steps before after a → CommandEnds files command before after [] a)
    → Comes answer_of end (steps before after) → CommandAnswers files command before after [] (said_by end)
quiet_run files command steps before after (Ok a) k h = inr (k (answer_of a) (inl h))
quiet_run files command steps before after (Err (Shown a)) k h = inr (k (answer_of a) (inr h))
quiet_run files command steps before after (Err Memory) k h = inl (refl, refl)

-- the line that memory was refused is shown as it is
memory_shown : (form : Form) (raw a : Answered) → raw ≡ memory_answer → IsShown form raw a → a ≡ memory_answer
memory_shown Codes raw a is (inl shown) = shown ∙ is
memory_shown Names raw a is (inl shown) = shown ∙ is
memory_shown Object raw a is (inl shown) = shown ∙ ap (shown_in Object) is
memory_shown form raw a is (inr refused) = refused.1

-- what a command answers, as it is shown
pub run_shown : (files : Option Files) (command : CommandWords) (before after : History) (stored : List NamedFile) (raw a : Answered)
    → CommandAnswers files command before after stored raw → IsShown (form_of_answer command) raw a → CommandRun files command before after stored a
run_shown files command before after stored raw a (inl none) shown = inl (memory_shown (form_of_answer command) raw a none.0 shown, none.1)
run_shown files command before after stored raw a (inr ends) shown = inr (record { raw = raw; ends = ends; shown = shown })

-- what a command answers that has one form alone
pub run_plain : (files : Option Files) (command : CommandWords) (before after : History) (stored : List NamedFile) (a : Answered) → form_of_answer command ≡ Codes
    → CommandAnswers files command before after stored a → CommandRun files command before after stored a
run_plain files command before after stored a plain answers =
    run_shown files command before after stored a a answers (inl (sym (ap (λ (form : Form). shown_if form (is_refused_line a) a) plain)))

-- what a run of a command comes to, that writes to a sink as it goes on
module _ (files later : Option Files) (listed last : Option (List NamedFile)) (before after : History) where
  abbrev pub Ran : CommandWords → Answered → Type 0
  Ran command a = (stored : List NamedFile) × HasStored files later listed last stored × CommandAnswers files command before after stored a

  -- a command that stores no file, and left the file store as it was
  pub quiet_ran : (command : CommandWords) (steps : Steps Answered) (end : Result RunAnswer Refusal) → later ≡ files → last ≡ listed
      → ((a : Answered) → StepsEndIn steps before after a → CommandEnds files command before after [] a) → Comes answer_of end (steps before after) → Ran command (said_by end)
  quiet_ran command steps end same kept k h = ([], none_stored files later listed last same kept, quiet_run files command steps before after end k h)

  module _ (held holds : Option (List ℕ)) (was_failed is_failed : Bool) (begun written : Written) where
    abbrev pub RanWriting : CommandWords → Answered → Type 0
    RanWriting command a =
        (stored : List NamedFile) × (text : List ℕ) × HasStored files later listed last stored × IsWritten held holds was_failed is_failed begun written text
        × CommandRun files command before after stored (behind text a)

    -- a command that is known
    pub writing_run : (command meant : CommandWords) (a : Answered) → command ≡ meant → RanWriting meant a → RanWriting command a
    writing_run command meant a is run = subst (λ (c : CommandWords). RanWriting c a) (sym is) run

-- a command that writes nothing before its answer
pub silent_run : (files later : Option Files) (listed last : Option (List NamedFile)) (before after : History) (held : Option (List ℕ)) (failed : Bool) (written : Written) (command meant : CommandWords)
    (raw a : Answered) → command ≡ meant → Ran files later listed last before after meant raw → IsShown (form_of_answer meant) raw a
    → RanWriting files later listed last before after held held failed failed written written command a
silent_run files later listed last before after held failed written command meant raw a is run shown =
    writing_run files later listed last before after held held failed failed written written command meant a is
    (run.0, [], run.1, written_none held failed written, run_shown files meant before after run.0 raw a run.2 shown)

-- words that give no command
pub ended_words : (files : Option Files) (list : List (List ℕ)) (n : History) (end : WordsEnd) (answer : Result RunAnswer AllocError)
    → EndsFor list end → (takes_words list ≡ true → EndsTaken list end) → IfOk answer (λ a. IsEndAnswer end (answer_of a))
    → IsRunAnswer files list n n [] (said_of answer)
ended_words files list n end (Ok a) by taken h = inr (inl (record { end = end; by = by; taken = taken; answer = h; none_stored = refl; none_loaded = refl }))
ended_words files list n end (Err e) by taken h = inl (refl, refl)

-- words that mean a command, and the run of it
pub meant_run : (files : Option Files) (list : List (List ℕ)) (before after : History) (stored : List NamedFile) (a : Answered) (command : CommandWords)
    → Means list command → faults_of list ≡ [] → RunsAsAsked files list command (record_name_of command) before after stored a → IsRunAnswer files list before after stored a
meant_run files list before after stored a command meant taken run = inr (inr (record { command = command; meant = meant; taken = taken; run = run }))

-- ---- commands over the states of a file store and of a sink

module _ {H W : Type 0} (contents : H → Option Files) (history : H → History) (stored_in : H → Option (List NamedFile)) (kept : W → Option (List ℕ)) (failed : W → Bool) (s t : H) where
  -- a command that writes nothing before its answer
  pub silent_end : (out : W) (written : Written) (command meant : CommandWords) (raw a : Answered) → command ≡ meant → Ran (contents s) (contents t) (stored_in s) (stored_in t) (history s) (history t) meant raw
      → IsShown (form_of_answer meant) raw a → RanWriting (contents s) (contents t) (stored_in s) (stored_in t) (history s) (history t) (kept out) (kept out) (failed out) (failed out) written written command a
  silent_end out written command meant raw a is run shown =
      silent_run (contents s) (contents t) (stored_in s) (stored_in t) (history s) (history t) (kept out) (failed out) written command meant raw a is run shown

  -- and one that stores no file either
  pub quiet_end : (out : W) (written : Written) (command meant : CommandWords) (steps : Steps Answered) (end : Result RunAnswer Refusal) (a : Answered) → command ≡ meant → contents t ≡ contents s → stored_in t ≡ stored_in s
      → ((a : Answered) → StepsEndIn steps (history s) (history t) a → CommandEnds (contents s) meant (history s) (history t) [] a) → Comes answer_of end (steps (history s) (history t)) → IsShown (form_of_answer meant) (said_by end) a
      → RanWriting (contents s) (contents t) (stored_in s) (stored_in t) (history s) (history t) (kept out) (kept out) (failed out) (failed out) written written command a
  quiet_end out written command meant steps end a is same still k h shown =
      silent_end out written command meant (said_by end) a is (quiet_ran (contents s) (contents t) (stored_in s) (stored_in t) (history s) (history t) meant steps end same still k h) shown

  -- and one that writes as it goes on
  pub writing_end : (out new : W) (written last : Written) (command meant : CommandWords) (a : Answered) → command ≡ meant
      → RanWriting (contents s) (contents t) (stored_in s) (stored_in t) (history s) (history t) (kept out) (kept new) (failed out) (failed new) written last meant a
      → RanWriting (contents s) (contents t) (stored_in s) (stored_in t) (history s) (history t) (kept out) (kept new) (failed out) (failed new) written last command a
  writing_end out new written last command meant a is run =
      writing_run (contents s) (contents t) (stored_in s) (stored_in t) (history s) (history t) (kept out) (kept new) (failed out) (failed new) written last command meant a is run
