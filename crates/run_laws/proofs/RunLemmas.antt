-- What the steps of a run come to together.
use Rattle.std.proofs.Common.{◌≡◌, ◌≢◌, ℕ, List, Option, Some, None, inl, inr, subst, sym, refl}
use Rattle.std.specs.Prelude.{Result, Ok, Err, IfOk}
use Rattle.cli_file_stores.specs.declared.file_store.FileStoreFault.{FileStoreFault}
use Rattle.cli_file_stores.specs.declared.file_store.FileStoreFault.TheVariants.{Missing, TooLarge, Device}
use Rattle.cli_file_stores.specs.declared.file_store.FileStoreFault.TheVariants as file_store
use Rattle.cli_file_stores.specs.Files.{Files}
use Rattle.cli_file_stores.specs.History.{History}
use Rattle.cli_file_stores.specs.FileStore.{IsLoad}
use Rattle.county_problem.specs.declared.fault.ProblemFault.{ProblemFault}
use Rattle.county_problem.specs.declared.fault.ProblemFault.TheVariants as problem
use Rattle.county_problem.specs.Building.{IsProblemRefused}
use Rattle.cli_answers.specs.declared.answer.Refusal.{Refusal}
use Rattle.cli_answers.specs.declared.answer.Refusal.TheVariants.{Shown, Memory}
use Rattle.cli_answers.specs.Answer.{Answered}
use Rattle.std.specs.Result.{IsErrAnd}
use Rattle.cli_answers.specs.Answers.{Comes, AnswerMeets, RefusalShows, IsShown}
use Rattle.run_laws.specs.Steps.{Steps, ◌>>=◌, load_step, call_step}

-- a claim on an answer, changed
pub if_ok : {X E : Type 0} (P Q : X → Type 0) (r : Result X E) → ((x : X) → P x → Q x) → IfOk r P → IfOk r Q
if_ok P Q (Ok x) f h = f x h
if_ok P Q (Err e) f h = tt

-- a load, seen by its bytes
pub loaded_bytes : {X : Type 0} (view : X → List ℕ) (files : Option Files) (failures : ℕ) (name : List ℕ) (x : X)
    → IsLoad view files failures name (Ok x) → IsLoad {X = List ℕ} (λ bytes. bytes) files failures name (Ok (view x))
loaded_bytes view None failures name x h = tt
loaded_bytes view (Some files) failures name x h = h

pub load_fault : {X : Type 0} (view : X → List ℕ) (files : Option Files) (failures : ℕ) (name : List ℕ) (fault : FileStoreFault)
    → IsLoad view files failures name (Err fault) → IsLoad {X = List ℕ} (λ bytes. bytes) files failures name (Err fault)
load_fault view None failures name fault h = tt
load_fault view (Some files) failures name Missing h = h
load_fault view (Some files) failures name TooLarge h = h
load_fault view (Some files) failures name Device h = h
load_fault view (Some files) failures name file_store.Memory h = h

-- the first steps end the steps, where they meet a fault that is handed on
pub handed_on : {X S Y : Type 0} (show : S → Y) (refusal : Refusal) (end : Result S Refusal) (first : Steps X) (next : X → Steps Y) (before after : History)
    → IsErrAnd end (λ e. e ≡ refusal) → AnswerMeets refusal (λ a. first before after (Err a)) → Comes show end ((first >>= next) before after)
handed_on show refusal (Ok s) first next before after i h = absurd i
handed_on show (Shown a) (Err e) first next before after i h = subst (λ (r : Refusal). AnswerMeets r (λ b. (first >>= next) before after (Err b))) (sym i) (inl h)
handed_on show Memory (Err e) first next before after i h = subst (λ (r : Refusal). AnswerMeets r (λ b. (first >>= next) before after (Err b))) (sym i) tt

-- the next steps end it, where the first give a value
pub went_on : {X S Y : Type 0} (show : S → Y) (end : Result S Refusal) (first : Steps X) (next : X → Steps Y) (value : X) (before between after : History)
    → first before between (Ok value) → Comes show end (next value between after) → Comes show end ((first >>= next) before after)
went_on show (Ok s) first next value before between after h k = inr (record { value = value; between = between; given = h; goes_on = k })
went_on show (Err (Shown a)) first next value before between after h k = inr (record { value = value; between = between; given = h; goes_on = k })
went_on show (Err Memory) first next value before between after h k = tt

pub came : {X Y : Type 0} (first : Steps X) (next : X → Steps Y) (value : X) (before between after : History) (end : Result Y Answered)
    → first before between (Ok value) → next value between after end → (first >>= next) before after end
came first next value before between after end h k = inr (record { value = value; between = between; given = h; goes_on = k })

pub met_later : {X Y : Type 0} (refusal : Refusal) (first : Steps X) (next : X → Steps Y) (value : X) (before between after : History)
    → first before between (Ok value) → AnswerMeets refusal (λ a. next value between after (Err a)) → AnswerMeets refusal (λ a. (first >>= next) before after (Err a))
met_later (Shown a) first next value before between after h k = inr (record { value = value; between = between; given = h; goes_on = k })
met_later Memory first next value before between after h k = tt

-- a file is loaded, and its bytes are read
pub read_file : {S Y : Type 0} (show : S → Y) (end : Result S Refusal) (files : Option Files) (name bytes seen : List ℕ) (steps : List ℕ → Steps Y) (before after : History)
    → load_step files name before after (Ok bytes) → seen ≡ bytes → Comes show end (steps seen after after) → Comes show end ((load_step files name >>= steps) before after)
read_file show end files name bytes seen steps before after h e k =
    went_on show end (load_step files name) steps bytes before after after h (subst (λ (b : List ℕ). Comes show end (steps b after after)) e k)

-- a step without a file meets a fault, which is refused
pub refused : {X F : Type 0} (refusal : Refusal) (refuse : F → Answered) (fault : F) (R : Result X F → Type 0) (n : History)
    → RefusalShows (refuse fault) refusal → (IsShown refusal → R (Err fault)) → AnswerMeets refusal (λ a. call_step refuse R n n (Err a))
refused (Shown a) refuse fault R n h k = (refl, (fault, k tt, h))
refused Memory refuse fault R n h k = tt

-- the fault of a problem that was not built, where it isn't want of memory
pub fault_stands : (stands : Option ProblemFault) (fault : ProblemFault) → (fault ≢ problem.Memory) → IsProblemRefused stands (Err fault) → stands ≡ Some fault
fault_stands stands problem.BadWindow n h = h
fault_stands stands problem.SeatsOutOfRange n h = h
fault_stands stands problem.TooManyCounties n h = h
fault_stands stands (problem.DoubleCounty code) n h = h
fault_stands stands problem.NoPeople n h = h
fault_stands stands (problem.EmptyWithdrawn set) n h = h
fault_stands stands (problem.UnknownWithdrawn code) n h = h
fault_stands stands (problem.WithdrawnTwice code) n h = h
fault_stands stands problem.WithdrawnSeats n h = h
fault_stands stands (problem.UnknownPair a b) n h = h
fault_stands stands problem.Memory n h = absurd (n refl)
