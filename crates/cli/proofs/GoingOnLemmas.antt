-- What calls came to that write as they go on, over one step and the next.
use Rattle.std.proofs.Common.{◌≡◌, ◌≢◌, ◌⊎◌, ◌++◌, ℕ, List, [], Option, inl, inr, refl, sym, ap, subst, ◌∙◌}
use Rattle.std.specs.Prelude.{Result, Ok, Err, Bool}
use Rattle.std.specs.Result.{IsErrAnd}
use Rattle.field_lines.specs.Source.{Given, nothing_given}
use Rattle.county_problem.specs.ProblemValue.{ProblemValue, problem_of}
use Rattle.certificate_lines.specs.Rest.{IsTextMemory}
use Rattle.certificate_lines.specs.declared.fault.TextFault.{TextFault}
use Rattle.certificate_lines.specs.declared.fault.TextKind.TheVariants as text_kind
use Rattle.worker_texts.specs.Coming as texts
use Rattle.piece_worker.specs.Runs as worker
use Rattle.cli_words.specs.Words.{standard_input}
use Rattle.cli_words.specs.declared.words.WorkerWords.{WorkerWords}
use Rattle.cli_words.specs.declared.words.CommandWords.TheVariants.{Worker as WorkerCommand}
use Rattle.cli_file_stores.specs.declared.file_store.ReadEnd.{ReadEnd}
use Rattle.cli_file_stores.specs.declared.file_store.FileStoreFault.{FileStoreFault}
use Rattle.cli_file_stores.specs.Files.{Files}
use Rattle.cli_file_stores.specs.FileStore.{IsRead, read_end}
use Rattle.cli_file_stores.specs.History.{History, HasRead}
use Rattle.cli_answers.specs.declared.answer.RunAnswer.{RunAnswer}
use Rattle.cli_answers.specs.declared.answer.Refusal.{Refusal}
use Rattle.cli_answers.specs.declared.answer.Refusal.TheVariants.{Shown, Memory}
use Rattle.cli_answers.specs.Answer.{Answered, success, memory_answer}
use Rattle.cli_answers.specs.Answers.{answer_of, AnswerMeets, RefusalShows, IsShown, said_by}
use Rattle.cli_answers.specs.Refusals.{file_store_answer, pieces_answer}
use Rattle.run_laws.specs.Steps.{Steps, ◌>>=◌, value_step}
use Rattle.run_laws.specs.Reading.{GivenBack, open_step, read_step, read_one}
use Rattle.run_laws.specs.WorkerSteps.{WorkerRun, HasProved, IsWorkerRun, texts_steps, worker_steps}
use Rattle.run_laws.specs.Spoken.{behind}
use Rattle.run_laws.specs.Run.{CommandAnswers}
use Rattle.cli.specs.GoingOn.{StopsSilently, WorkerDone, ProvesBy}

pub meets : (refusal : Refusal) (P Q : Answered → Type 0) → ((a : Answered) → P a → Q a) → AnswerMeets refusal P → AnswerMeets refusal Q
meets (Shown a) P Q f h = f (answer_of a) h
meets Memory P Q f h = tt

module _ {X Y : Type 0} (first : Steps X) (next : X → Steps Y) (x : X) (before between after : History) (given : first before between (Ok x)) where
  pub went_with : (end : Result Y Answered) → next x between after end → (first >>= next) before after end
  went_with end h = inr (record { value = x; between = between; given = given; goes_on = h })

  silent_on : (text : List ℕ) (refusal : Refusal) → StopsSilently (next x) between after text refusal → StopsSilently (first >>= next) before after text refusal
  silent_on text refusal h = (h.0, meets refusal (λ a. next x between after (Err a)) (λ a. (first >>= next) before after (Err a)) (λ a stop. went_with (Err a) stop) h.1)

-- steps that stop, whatever follows
pub silent_stop : {X Y : Type 0} (first : Steps X) (next : X → Steps Y) (before after : History) (refusal : Refusal) → AnswerMeets refusal (λ a. first before after (Err a)) → StopsSilently (first >>= next) before after [] refusal
silent_stop first next before after refusal h = (refl, meets refusal (λ a. first before after (Err a)) (λ a. (first >>= next) before after (Err a)) (λ a stop. inl stop) h)

-- what `worker` comes to behind steps that gave a value
pub proves_on : {X : Type 0} (first : Steps X) (next : X → Steps WorkerRun) (x : X) (before between after : History) → first before between (Ok x) → (text : List ℕ) (result : Result RunAnswer Refusal)
    → ProvesBy (next x) between after text result → ProvesBy (first >>= next) before after text result
proves_on first next x before between after given text (Ok answer) h = (h.0, went_with first next x before between after given (Ok h.0) h.1, h.2, h.3)
proves_on first next x before between after given text (Err refusal) (inl h) = inl (silent_on first next x before between after given text refusal h)
proves_on first next x before between after given text (Err refusal) (inr h) = inr (h.0, went_with first next x before between after given (Ok h.0) h.1, h.2, h.3)

-- a reader of standard input was opened and given back
pub read_back : (files : Option Files) (before opened after : History) (bytes : List ℕ) (answer : Result ReadEnd FileStoreFault) → open_step files standard_input before opened (Ok tt)
    → IsRead files standard_input bytes answer → HasRead opened after standard_input bytes answer → read_one files standard_input before after (Ok (record { bytes = bytes; answer = answer }))
read_back files before opened after bytes answer opens is has =
    went_with (open_step files standard_input) (λ done. read_step files standard_input) tt before opened after opens (Ok (record { bytes = bytes; answer = answer })) (is, has)

-- over the states of a file store: the reader was opened and given back
module _ {H : Type 0} (contents : H → Option Files) (history : H → History) (s t u : H) (same : contents t ≡ contents s) (opens : open_step (contents s) standard_input (history s) (history t) (Ok tt)) where
  input_read : (bytes : List ℕ) (answer : Result ReadEnd FileStoreFault) → IsRead (contents t) standard_input bytes answer → HasRead (history t) (history u) standard_input bytes answer
      → read_one (contents s) standard_input (history s) (history u) (Ok (record { bytes = bytes; answer = answer }))
  input_read bytes answer is has =
      read_back (contents s) (history s) (history t) (history u) bytes answer opens (subst (λ (f : Option Files). IsRead f standard_input bytes answer) same is) has

-- steps meet a fault that is handed on, before anything was written
pub proves_handed : {X : Type 0} (refusal : Refusal) (end : Result RunAnswer Refusal) (first : Steps X) (next : X → Steps WorkerRun) (before after : History) → IsErrAnd end (λ e. e ≡ refusal)
    → AnswerMeets refusal (λ a. first before after (Err a)) → ProvesBy (first >>= next) before after [] end
proves_handed refusal (Ok s) first next before after i h = absurd i
proves_handed refusal (Err e) first next before after i h =
    subst (λ (r : Refusal). ProvesBy (first >>= next) before after [] (Err r)) (sym i) (inl (silent_stop first next before after refusal h))

-- calls that load files, over the states of a file store: one was refused, or it gave a value and left the files as
-- they were
module _ {H X : Type 0} (contents : H → Option Files) (history : H → History) (first : Option Files → Steps X) where
  pub proves_stopped : (next : Option Files → X → Steps WorkerRun) (end : Result RunAnswer Refusal) (refusal : Refusal) (s t : H) → IsErrAnd end (λ e. e ≡ refusal)
      → AnswerMeets refusal (λ a. first (contents s) (history s) (history t) (Err a)) → ProvesBy (first (contents s) >>= next (contents s)) (history s) (history t) [] end
  proves_stopped next end refusal s t is met = proves_handed refusal end (first (contents s)) (next (contents s)) (history s) (history t) is met

  pub proves_stepped : (next : Option Files → X → Steps WorkerRun) (x : X) (s t u : H) → first (contents s) (history s) (history t) (Ok x) → contents t ≡ contents s → (text : List ℕ) (end : Result RunAnswer Refusal)
      → ProvesBy (next (contents t) x) (history t) (history u) text end → ProvesBy (first (contents s) >>= next (contents s)) (history s) (history u) text end
  proves_stepped next x s t u given same text end by =
      proves_on (first (contents s)) (next (contents s)) x (history s) (history t) (history u) given text end (subst (λ (f : Option Files). ProvesBy (next f x) (history t) (history u) text end) same by)

-- ---- the run of `worker`

module _ (v : ProblemValue) (from to : Given) (fresh : from ≡ nothing_given) (text : List ℕ) (left : texts.Held) where
  abbrev WorkerGiven : Result ReadEnd FileStoreFault → GivenBack
  WorkerGiven answer = record { bytes = to.bytes; answer = answer }

  abbrev pub run_with : Answered → WorkerRun
  run_with end = record { text = text; end = end }

  proved_of : (result : Result (Unit {0}) TextFault) → worker.IsWorkerRun (problem_of v) from to text left result → HasProved v to.bytes text left
  proved_of result h = record {
    texts = h.texts;
    spelled = h.spelled;
    read = h.pulls.given ∙ ap (λ (given : Given). given.bytes ++ h.pulls.pulled) fresh ∙ sym h.pulls.text_is ∙ h.read;
    last = h.last;
    answers = h.answers;
  }

  -- the texts ended
  pub worker_done : worker.IsWorkerRun (problem_of v) from to text left (Ok tt) → (end : ReadEnd) → end ≡ read_end to.ended → (a : Answered) → a ≡ success [] → IsWorkerRun v (WorkerGiven (Ok end)) (run_with a)
  worker_done h end back a is = (left, proved_of (Ok tt) h, inl (ap Ok back ∙ ap (λ (b : Bool). Ok (read_end b)) h.ends.0, h.ends.1, is))

  -- a text was refused, or memory
  pub worker_stopped : (fault : TextFault) → worker.IsWorkerRun (problem_of v) from to text left (Err fault) → (end : ReadEnd) → end ≡ read_end to.ended → (refusal : Refusal) → RefusalShows (pieces_answer fault) refusal
      → (IsShown refusal → fault.kind ≢ text_kind.Memory) → IsWorkerRun v (WorkerGiven (Ok end)) (run_with (said_by (Err refusal)))
  worker_stopped fault h end back Memory shows shown = (left, proved_of (Err fault) h, inr (inr (inr refl)))
  worker_stopped fault h end back (Shown a) shows shown = by_end h.ends
    where
      by_end : IsTextMemory fault ⊎ texts.TellsFault left to.ended fault left → IsWorkerRun v (WorkerGiven (Ok end)) (run_with (answer_of a))
      by_end (inl memory) = absurd (shown tt memory)
      by_end (inr told) = (left, proved_of (Err fault) h, inr (inl (record { fault = fault; ended = to.ended; back_is = ap Ok back; told = told; answer = shows })))

  -- the reader failed
  pub worker_failed : (result : Result (Unit {0}) TextFault) → worker.IsWorkerRun (problem_of v) from to text left result → (fault : FileStoreFault) (refusal : Refusal) → RefusalShows (file_store_answer standard_input fault) refusal
      → IsWorkerRun v (WorkerGiven (Err fault)) (run_with (said_by (Err refusal)))
  worker_failed result h fault (Shown a) shows = (left, proved_of result h, inr (inr (inl (fault, refl, shows))))
  worker_failed result h fault Memory shows = (left, proved_of result h, inr (inr (inr refl)))

-- a worker ran over standard input
pub texts_ran : (files : Option Files) (v : ProblemValue) (before after : History) (given : GivenBack) (s : WorkerRun) → read_one files standard_input before after (Ok given) → IsWorkerRun v given s
    → texts_steps files v before after (Ok s)
texts_ran files v before after given s read is = went_with (read_one files standard_input) (λ x. value_step (IsWorkerRun v x)) given before after after read (Ok s) (refl, is)

-- the same over the states of a file store
module _ {H : Type 0} (contents : H → Option Files) (history : H → History) (s t u : H) (same : contents t ≡ contents s) (opens : open_step (contents s) standard_input (history s) (history t) (Ok tt))
    (v : ProblemValue) (from to : Given) (fresh : from ≡ nothing_given) (text : List ℕ) (left : texts.Held) where
  abbrev Proves : Result RunAnswer Refusal → Type 0
  Proves result = ProvesBy (texts_steps (contents s) v) (history s) (history u) text result

  worker_came : (answer : Result ReadEnd FileStoreFault) → IsRead (contents t) standard_input to.bytes answer → HasRead (history t) (history u) standard_input to.bytes answer
      → (end : Answered) → IsWorkerRun v (record { bytes = to.bytes; answer = answer }) (record { text = text; end = end }) → texts_steps (contents s) v (history s) (history u) (Ok (record { text = text; end = end }))
  worker_came answer is has end run =
      texts_ran (contents s) v (history s) (history u) (record { bytes = to.bytes; answer = answer }) (record { text = text; end = end }) (input_read contents history s t u same opens to.bytes answer is has) run

  pub texts_done : (end : ReadEnd) → end ≡ read_end to.ended → IsRead (contents t) standard_input to.bytes (Ok end) → HasRead (history t) (history u) standard_input to.bytes (Ok end)
      → worker.IsWorkerRun (problem_of v) from to text left (Ok tt) → (answer : RunAnswer) → answer.text.items ≡ [] → answer.status ≡ 0 → Proves (Ok answer)
  texts_done end back is has run answer empty zero =
      let said : answer_of answer ≡ success [] = ap (λ (w : List ℕ). record { text = w; status = answer.status }) empty ∙ ap (λ (n : ℕ). record { text = []; status = n }) zero in
      (record { text = text; end = answer_of answer }, worker_came (Ok end) is has (answer_of answer) (worker_done v from to fresh text left run end back (answer_of answer) said), refl, refl)

  pub texts_stopped : (end : ReadEnd) → end ≡ read_end to.ended → IsRead (contents t) standard_input to.bytes (Ok end) → HasRead (history t) (history u) standard_input to.bytes (Ok end)
      → (fault : TextFault) → worker.IsWorkerRun (problem_of v) from to text left (Err fault) → (refusal : Refusal) → RefusalShows (pieces_answer fault) refusal → (IsShown refusal → fault.kind ≢ text_kind.Memory) → Proves (Err refusal)
  texts_stopped end back is has fault run refusal shows shown =
      inr (record { text = text; end = said_by (Err refusal) }, worker_came (Ok end) is has (said_by (Err refusal)) (worker_stopped v from to fresh text left fault run end back refusal shows shown), refl, refl)

  pub texts_failed : (fault : FileStoreFault) → IsRead (contents t) standard_input to.bytes (Err fault) → HasRead (history t) (history u) standard_input to.bytes (Err fault)
      → (result : Result (Unit {0}) TextFault) → worker.IsWorkerRun (problem_of v) from to text left result → (refusal : Refusal) → RefusalShows (file_store_answer standard_input fault) refusal → Proves (Err refusal)
  texts_failed fault is has result run refusal shows =
      inr (record { text = text; end = said_by (Err refusal) }, worker_came (Err fault) is has (said_by (Err refusal)) (worker_failed v from to fresh text left result run fault refusal shows), refl, refl)

module _ (files : Option Files) (words : WorkerWords) (before after : History) (text : List ℕ) where
  worker_of : (result : Result RunAnswer Refusal) → WorkerDone (worker_steps files words) before after text result → CommandAnswers files (WorkerCommand words) before after [] (behind text (said_by result))
  worker_of result h = inr (inr (h.0, h.1, ap (λ (t : List ℕ). behind t (said_by result)) (sym h.2) ∙ ap (behind h.0.text) (sym h.3)), refl)

  worker_silent : (refusal : Refusal) → StopsSilently (worker_steps files words) before after text refusal → CommandAnswers files (WorkerCommand words) before after [] (behind text (said_by (Err refusal)))
  worker_silent (Shown a) h = subst (λ (t : List ℕ). CommandAnswers files (WorkerCommand words) before after [] (behind t (answer_of a))) (sym h.0) (inr (inl h.1, refl))
  worker_silent Memory h = subst (λ (t : List ℕ). CommandAnswers files (WorkerCommand words) before after [] (behind t memory_answer)) (sym h.0) (inl (refl, refl))

  pub worker_ran : (result : Result RunAnswer Refusal) → ProvesBy (worker_steps files words) before after text result → CommandAnswers files (WorkerCommand words) before after [] (behind text (said_by result))
  worker_ran (Ok a) h = worker_of (Ok a) h
  worker_ran (Err refusal) (inl h) = worker_silent refusal h
  worker_ran (Err refusal) (inr h) = worker_of (Err refusal) h
