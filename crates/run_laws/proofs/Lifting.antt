-- Steps over files, told or not, are steps over any files by which their loads and readers answered.
use Rattle.std.proofs.Common.{◌≡◌, ℕ, List, [], ◌∷◌, ◌++◌, Option, Some, None, inl, inr, sym, ap, ◌∙◌, append_assoc}
use Rattle.std.specs.Prelude.{Result, Ok, Err}
use Rattle.std.specs.List.{All}
use Rattle.std.specs.Borrow.{Bor}
use Rattle.std.proofs.lemmas.List.{append-nil, append_cancel_left}
use Rattle.std.proofs.lemmas.List.Elements.{All-nil, All-cons, All-head, All-tail, All-same}
use Rattle.cli_file_stores.specs.declared.file_store.FileStoreFault.{FileStoreFault}
use Rattle.cli_file_stores.specs.declared.file_store.FileStoreFault.TheVariants.{Missing, TooLarge, Device, Memory}
use Rattle.cli_file_stores.specs.Files.{Files}
use Rattle.cli_file_stores.specs.FileStore.{IsLoad}
use Rattle.cli_file_stores.specs.History.{FileStoreEvent, History}
use Rattle.cli_answers.specs.Answer.{Answered}
use Rattle.run_laws.specs.Steps.{Steps, ◌>>=◌, StepsEndIn, load_step, call_step, value_step, optional_step}
use Rattle.field_lines.specs.Source.{Given}
use Rattle.run_laws.specs.Reading.{GivenBack, open_step, read_step, given_step, read_one, given_of, back_step, read_both, given_pair, given_of_both}
use Rattle.run_laws.specs.Loads.{HasAnswer, Answers, AnsweredBy}

-- the events of one history are those of another and then more
abbrev pub Extends : History → History → Type 0
Extends before after = (more : List FileStoreEvent) × (after.events ≡ before.events ++ more)

pub extends_same : (before after : History) → after ≡ before → Extends before after
extends_same before after same = ([], ap (λ (h : History). h.events) same ∙ sym (append-nil before.events))

pub extends_twice : (before between after : History) (first : Extends before between) (next : Extends between after) → after.events ≡ before.events ++ (first.0 ++ next.0)
extends_twice before between after first next = next.1 ∙ ap (λ (events : List FileStoreEvent). events ++ next.0) first.1 ∙ append_assoc before.events first.0 next.0

-- all of a list's members are all of its front's and all of the rest's
All_split : {X : Type 0} (P : X → Type 0) (xs ys : List X) → All P (xs ++ ys) → All P xs × All P ys
All_split P [] ys h = (All-nil P, h)
All_split P (x ∷ xs) ys h =
    let rest = All_split P xs ys (All-tail P x (xs ++ ys) h) in
    (All-cons P x xs (All-head P x (xs ++ ys) h) rest.0, rest.1)

module _ (given : Option Files) (files : Files) where
  -- what holds of the events of steps and of others behind them holds of both
  pub answered_split : (before between after : History) → Extends before between → Extends between after → AnsweredBy files before after
      → AnsweredBy files before between × AnsweredBy files between after
  answered_split before between after first next by =
      let same : first.0 ++ next.0 ≡ by.0 = append_cancel_left before.events (first.0 ++ next.0) by.0 (sym (extends_twice before between after first next) ∙ by.1) in
      let parts = All_split (Answers files) first.0 next.0 (All-same (Answers files) (first.0 ++ next.0) by.0 same by.2) in
      ((first.0, first.1, parts.0), (next.0, next.1, parts.1))

  -- the one event of a step
  one_answer : (before after : History) (event : FileStoreEvent) → after.events ≡ before.events ++ event ∷ [] → AnsweredBy files before after → Answers files event
  one_answer before after event events by =
      let same : event ∷ [] ≡ by.0 = append_cancel_left before.events (event ∷ []) by.0 (sym events ∙ by.1) in
      All-head (Answers files) event [] (All-same (Answers files) (event ∷ []) by.0 same by.2)

  fault_of_files : (failures : ℕ) (name : List ℕ) (fault : FileStoreFault) → HasAnswer files name (Err fault) → IsLoad {X = List ℕ} (λ b. b) (Some files) failures name (Err fault)
  fault_of_files failures name Missing h = inl h
  fault_of_files failures name TooLarge h = h
  fault_of_files failures name Device h = tt
  fault_of_files failures name Memory h = tt

  -- the steps only add events; if the files answered these, the steps are also steps over the files
  pub record Lifts {X : Type 0} (untold told : Steps X) : Type 0 where
    pub extends : (before after : History) (end : Result X Answered) → untold before after end → Extends before after
    pub lifts : (before after : History) (end : Result X Answered) → untold before after end → AnsweredBy files before after → told before after end

  load_extends : (name : List ℕ) (before after : History) (end : Result (List ℕ) Answered) → load_step given name before after end → Extends before after
  load_extends name before after (Ok bytes) h = (_, h.1.1)
  load_extends name before after (Err a) h = (_, h.2.1)

  load_lifted : (name : List ℕ) (before after : History) (end : Result (List ℕ) Answered) → load_step given name before after end → AnsweredBy files before after
      → load_step (Some files) name before after end
  load_lifted name before after (Ok bytes) h by = (one_answer before after _ h.1.1 by, h.1, h.2)
  load_lifted name before after (Err a) h by = (h.0, fault_of_files before.failures name h.0 (one_answer before after _ h.2.1 by), h.2, h.3)

  pub lifts_load : (name : List ℕ) → Lifts (load_step given name) (load_step (Some files) name)
  lifts_load name = record { extends = load_extends name; lifts = load_lifted name }

  -- steps without an event
  lifts_same : {X : Type 0} (steps : Steps X) → ((before after : History) (end : Result X Answered) → steps before after end → after ≡ before) → Lifts steps steps
  lifts_same steps same = record {
    extends = λ before after end h. extends_same before after (same before after end h);
    lifts = λ before after end h by. h;
  }

  call_same : {X F : Type 0} (refuse : F → Answered) (R : Result X F → Type 0) (before after : History) (end : Result X Answered) → call_step refuse R before after end → after ≡ before
  call_same refuse R before after (Ok value) h = h.0
  call_same refuse R before after (Err a) h = h.0

  pub lifts_call : {X F : Type 0} (refuse : F → Answered) (R : Result X F → Type 0) → Lifts (call_step refuse R) (call_step refuse R)
  lifts_call refuse R = lifts_same (call_step refuse R) (call_same refuse R)

  value_same : {X : Type 0} (P : X → Type 0) (before after : History) (end : Result X Answered) → value_step P before after end → after ≡ before
  value_same P before after (Ok value) h = h.0
  value_same P before after (Err a) h = absurd h

  pub lifts_value : {X : Type 0} (P : X → Type 0) → Lifts (value_step P) (value_step P)
  lifts_value P = lifts_same (value_step P) (value_same P)

  -- steps, and then others
  module _ {X Y : Type 0} (first told_first : Steps X) (next told_next : X → Steps Y) (f : Lifts first told_first) (n : (x : X) → Lifts (next x) (told_next x)) where
    bind_extends : (before after : History) (end : Result Y Answered) → (first >>= next) before after end → Extends before after
    bind_extends before after (Ok value) (inl stop) = absurd stop
    bind_extends before after (Err a) (inl stop) = f.extends before after (Err a) stop
    bind_extends before after end (inr g) =
        let begun = f.extends before g.between (Ok g.value) g.given in
        let ended = (n g.value).extends g.between after end g.goes_on in
        (begun.0 ++ ended.0, extends_twice before g.between after begun ended)

    bind_lifted : (before after : History) (end : Result Y Answered) → (first >>= next) before after end → AnsweredBy files before after → (told_first >>= told_next) before after end
    bind_lifted before after (Ok value) (inl stop) by = absurd stop
    bind_lifted before after (Err a) (inl stop) by = inl (f.lifts before after (Err a) stop by)
    bind_lifted before after end (inr g) by =
        let parts = answered_split before g.between after (f.extends before g.between (Ok g.value) g.given) ((n g.value).extends g.between after end g.goes_on) by in
        inr (record {
          value = g.value;
          between = g.between;
          given = f.lifts before g.between (Ok g.value) g.given parts.0;
          goes_on = (n g.value).lifts g.between after end g.goes_on parts.1;
        })

  pub lifts_bind : {X Y : Type 0} {first told_first : Steps X} {next told_next : X → Steps Y} → Lifts first told_first → ((x : X) → Lifts (next x) (told_next x))
      → Lifts (first >>= next) (told_first >>= told_next)
  lifts_bind f n = record { extends = bind_extends _ _ _ _ f n; lifts = bind_lifted _ _ _ _ f n }

  pub lifts_optional : {X : Type 0} (value : X) {untold told : List ℕ → Steps X} (name : Option (Bor (List ℕ))) → ((file : List ℕ) → Lifts (untold file) (told file))
      → Lifts (optional_step value untold name) (optional_step value told name)
  lifts_optional value None steps = lifts_value (λ x. x ≡ value)
  lifts_optional value (Some name) steps = steps name.now

  -- the answer in which steps end
  pub ends_lift : {untold told : Steps Answered} → Lifts untold told → (before after : History) (a : Answered) → StepsEndIn untold before after a → AnsweredBy files before after → StepsEndIn told before after a
  ends_lift l before after a (inl h) by = inl (l.lifts before after (Ok a) h by)
  ends_lift l before after a (inr h) by = inr (l.lifts before after (Err a) h by)

  -- steps that read files
  open_extends : (name : List ℕ) (before after : History) (end : Result (Unit {0}) Answered) → open_step given name before after end → Extends before after
  open_extends name before after (Ok opened) h = extends_same before after h
  open_extends name before after (Err a) h = load_extends name before after (Err a) h

  open_lifted : (name : List ℕ) (before after : History) (end : Result (Unit {0}) Answered) → open_step given name before after end → AnsweredBy files before after
      → open_step (Some files) name before after end
  open_lifted name before after (Ok opened) h by = h
  open_lifted name before after (Err a) h by = load_lifted name before after (Err a) h by

  lifts_open : (name : List ℕ) → Lifts (open_step given name) (open_step (Some files) name)
  lifts_open name = record { extends = open_extends name; lifts = open_lifted name }

  read_extends : (name : List ℕ) (before after : History) (end : Result GivenBack Answered) → read_step given name before after end → Extends before after
  read_extends name before after (Ok g) h = (_, h.1.1)
  read_extends name before after (Err a) h = absurd h

  read_lifted : (name : List ℕ) (before after : History) (end : Result GivenBack Answered) → read_step given name before after end → AnsweredBy files before after
      → read_step (Some files) name before after end
  read_lifted name before after (Ok g) h by = (one_answer before after _ h.1.1 by, h.1)
  read_lifted name before after (Err a) h by = absurd h

  lifts_read : (name : List ℕ) → Lifts (read_step given name) (read_step (Some files) name)
  lifts_read name = record { extends = read_extends name; lifts = read_lifted name }

  given_same : (name : List ℕ) (g : GivenBack) (before after : History) (end : Result Given Answered) → given_step name g before after end → after ≡ before
  given_same name g before after (Ok given) h = h.0
  given_same name g before after (Err a) h = h.0

  lifts_given : (name : List ℕ) (g : GivenBack) → Lifts (given_step name g) (given_step name g)
  lifts_given name g = lifts_same (given_step name g) (given_same name g)

  -- what the reader of one file gave, and those of two
  pub lifts_read_one : (name : List ℕ) → Lifts (read_one given name) (read_one (Some files) name)
  lifts_read_one name = lifts_bind (lifts_open name) (λ opened. lifts_read name)

  pub lifts_given_of : (name : List ℕ) → Lifts (given_of given name) (given_of (Some files) name)
  lifts_given_of name = lifts_bind (lifts_read_one name) (lifts_given name)

  lifts_back : (first second : List ℕ) → Lifts (back_step given first second) (back_step (Some files) first second)
  lifts_back first second = lifts_bind (lifts_read second) (λ h. lifts_bind (lifts_read first) (λ g. lifts_value (λ pair. pair ≡ (g, h))))

  lifts_read_both : (first second : List ℕ) → Lifts (read_both given first second) (read_both (Some files) first second)
  lifts_read_both first second = lifts_bind (lifts_open first) (λ opened. lifts_bind (lifts_open second) (λ both. lifts_back first second))

  lifts_given_pair : (first second : List ℕ) (both : GivenBack × GivenBack) → Lifts (given_pair first second both) (given_pair first second both)
  lifts_given_pair first second both = lifts_bind (lifts_given second both.1) (λ y. lifts_bind (lifts_given first both.0) (λ x. lifts_value (λ pair. pair ≡ (x, y))))

  pub lifts_given_of_both : (first second : List ℕ) → Lifts (given_of_both given first second) (given_of_both (Some files) first second)
  lifts_given_of_both first second = lifts_bind (lifts_read_both first second) (lifts_given_pair first second)
