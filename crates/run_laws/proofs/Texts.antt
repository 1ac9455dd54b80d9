-- What the readers of the files that a run was given gave, and the status in which steps end that don't have it.
use Rattle.std.proofs.Common.{◌≡◌, ℕ, Bool, true, false, List, [], ◌++◌, Option, Some, inl, inr, refl, sym, ap, subst, ◌∙◌}
use Rattle.std.proofs.lemmas.List.{append-nil}
use Rattle.std.proofs.lemmas.Bool.{false≢true}
use Rattle.std.specs.Prelude.{Result, Ok, Err}
use Rattle.cli_file_stores.specs.declared.file_store.ReadEnd.{ReadEnd}
use Rattle.cli_file_stores.specs.declared.file_store.FileStoreFault.{FileStoreFault}
use Rattle.cli_file_stores.specs.declared.file_store.FileStoreFault.TheVariants as file_store
use Rattle.cli_file_stores.specs.Files.{Files}
use Rattle.cli_file_stores.specs.FileStore.{ReadsFile, read_end}
use Rattle.cli_file_stores.specs.History.{History}
use Rattle.cli_answers.specs.Answer.{Answered}
use Rattle.cli_answers.specs.Refusals.{file_store_answer}
use Rattle.run_laws.specs.Steps.{Steps, ◌>>=◌, load_step, value_step}
use Rattle.field_lines.specs.Source.{Given}
use Rattle.field_lines.specs.HeldBytes.{Foresees}
use Rattle.run_laws.specs.Reading.{GivenBack, open_step, read_step, given_step, read_one, given_of, back_step, read_both, given_pair, given_of_both}

pub file_store_status : (name : List ℕ) (fault : FileStoreFault) → (file_store_answer name fault).status ≡ 5
file_store_status name file_store.Missing = refl
file_store_status name file_store.TooLarge = refl
file_store_status name file_store.Device = refl
file_store_status name file_store.Memory = refl

-- the steps end in no other answers than those of a file store
abbrev pub CutsOff : {X : Type 0} → Steps X → Type 0
CutsOff steps = (before after : History) (a : Answered) → steps before after (Err a) → a.status ≡ 5

bind_cuts : {X Y : Type 0} (first : Steps X) (next : X → Steps Y) → CutsOff first → ((x : X) → CutsOff (next x)) → CutsOff (first >>= next)
bind_cuts first next f n before after a (inl stop) = f before after a stop
bind_cuts first next f n before after a (inr on) = n on.value on.between after a on.goes_on

pub load_cuts : (files : Option Files) (name : List ℕ) → CutsOff (load_step files name)
load_cuts files name before after a h = ap (λ (x : Answered). x.status) h.3 ∙ file_store_status name h.0

open_cuts : (files : Option Files) (name : List ℕ) → CutsOff (open_step files name)
open_cuts files name before after a h = load_cuts files name before after a h

read_cuts : (files : Option Files) (name : List ℕ) → CutsOff (read_step files name)
read_cuts files name before after a h = absurd h

given_cuts : (name : List ℕ) (g : GivenBack) → CutsOff (given_step name g)
given_cuts name g before after a h = ap (λ (x : Answered). x.status) h.1.2 ∙ file_store_status name h.1.0

value_cuts : {X : Type 0} (P : X → Type 0) → CutsOff (value_step P)
value_cuts P before after a h = absurd h

pub read_one_cuts : (files : Option Files) (name : List ℕ) → CutsOff (read_one files name)
read_one_cuts files name = bind_cuts _ _ (open_cuts files name) (λ opened. read_cuts files name)

pub given_of_cuts : (files : Option Files) (name : List ℕ) → CutsOff (given_of files name)
given_of_cuts files name = bind_cuts _ _ (read_one_cuts files name) (given_cuts name)

back_cuts : (files : Option Files) (first second : List ℕ) → CutsOff (back_step files first second)
back_cuts files first second = bind_cuts _ _ (read_cuts files second) (λ h. bind_cuts _ _ (read_cuts files first) (λ g. value_cuts {X = GivenBack × GivenBack} (λ pair. pair ≡ (g, h))))

read_both_cuts : (files : Option Files) (first second : List ℕ) → CutsOff (read_both files first second)
read_both_cuts files first second = bind_cuts _ _ (open_cuts files first) (λ opened. bind_cuts _ _ (open_cuts files second) (λ both. back_cuts files first second))

given_pair_cuts : (first second : List ℕ) (both : GivenBack × GivenBack) → CutsOff (given_pair first second both)
given_pair_cuts first second both = bind_cuts _ _ (given_cuts second both.1) (λ y. bind_cuts _ _ (given_cuts first both.0) (λ x. value_cuts {X = Given × Given} (λ pair. pair ≡ (x, y))))

pub given_of_both_cuts : (files : Option Files) (first second : List ℕ) → CutsOff (given_of_both files first second)
given_of_both_cuts files first second = bind_cuts _ _ (read_both_cuts files first second) (given_pair_cuts first second)

module _ (files : Files) where
  -- the bytes under a name are one of the texts that a reader may have begun
  pub record IsBegun (name : List ℕ) (given : Given) : Type 0 where
    pub text : List ℕ
    pub is : files name ≡ Some text
    pub sees : Foresees given text

  -- what the reader of a file gave
  abbrev pub IsOf : List ℕ → GivenBack → Type 0
  IsOf name g = ReadsFile files name g.bytes g.answer

  begun_by : (name : List ℕ) (bytes : List ℕ) (ended : Bool) → ReadsFile files name bytes (Ok (read_end ended)) → IsBegun name (record { bytes = bytes; ended = ended })
  begun_by name bytes true reads = record { text = bytes; is = reads; sees = record { later = []; text = sym (append-nil bytes); may = λ is. refl } }
  begun_by name bytes false reads = record { text = bytes ++ reads.0; is = reads.1; sees = record { later = reads.0; text = refl; may = λ is. absurd (false≢true is) } }

  given_told : (name : List ℕ) (g : GivenBack) (before after : History) (given : Given) → IsOf name g → given_step name g before after (Ok given) → IsBegun name given
  given_told name g before after given reads h =
      begun_by name given.bytes given.ended
      (subst (λ (bytes : List ℕ). ReadsFile files name bytes (Ok (read_end given.ended))) (sym h.1)
      (subst (λ (answer : Result ReadEnd FileStoreFault). ReadsFile files name g.bytes answer) h.2 reads))

  pub one_found : (name : List ℕ) (before after : History) (g : GivenBack) → read_one (Some files) name before after (Ok g) → IsOf name g
  one_found name before after g (inl stop) = absurd stop
  one_found name before after g (inr on) = on.goes_on.0

  -- what was read of a file begins its bytes
  pub given_of_found : (name : List ℕ) (before after : History) (given : Given) → given_of (Some files) name before after (Ok given) → IsBegun name given
  given_of_found name before after given (inl stop) = absurd stop
  given_of_found name before after given (inr on) = given_told name on.value on.between after given (one_found name before on.between on.value on.given) on.goes_on

  -- what was read of two files begins the bytes of both
  module _ (first second : List ℕ) where
    abbrev AreOf : GivenBack × GivenBack → Type 0
    AreOf both = IsOf first both.0 × IsOf second both.1

    abbrev pub AreBegun : Given × Given → Type 0
    AreBegun pair = IsBegun first pair.0 × IsBegun second pair.1

    back_given : (h : GivenBack) (before after : History) (both : GivenBack × GivenBack) → IsOf second h
        → (read_step (Some files) first >>= λ g. value_step (λ (p : GivenBack × GivenBack). p ≡ (g, h))) before after (Ok both) → AreOf both
    back_given h before after both others (inl stop) = absurd stop
    back_given h before after both others (inr on) = subst AreOf (sym on.goes_on.1) (on.given.0, others)

    back_told : (before after : History) (both : GivenBack × GivenBack) → back_step (Some files) first second before after (Ok both) → AreOf both
    back_told before after both (inl stop) = absurd stop
    back_told before after both (inr on) = back_given on.value on.between after both on.given.0 on.goes_on

    opened_told : (before after : History) (both : GivenBack × GivenBack) → (open_step (Some files) second >>= λ both. back_step (Some files) first second) before after (Ok both) → AreOf both
    opened_told before after both (inl stop) = absurd stop
    opened_told before after both (inr on) = back_told on.between after both on.goes_on

    both_told : (before after : History) (both : GivenBack × GivenBack) → read_both (Some files) first second before after (Ok both) → AreOf both
    both_told before after both (inl stop) = absurd stop
    both_told before after both (inr on) = opened_told on.between after both on.goes_on

    first_told : (g : GivenBack) (y : Given) (before after : History) (pair : Given × Given) → IsOf first g → IsBegun second y
        → (given_step first g >>= λ x. value_step (λ (p : Given × Given). p ≡ (x, y))) before after (Ok pair) → AreBegun pair
    first_told g y before after pair reads held (inl stop) = absurd stop
    first_told g y before after pair reads held (inr on) = subst AreBegun (sym on.goes_on.1) (given_told first g before on.between on.value reads on.given, held)

    pair_told : (both : GivenBack × GivenBack) (before after : History) (pair : Given × Given) → AreOf both → given_pair first second both before after (Ok pair) → AreBegun pair
    pair_told both before after pair of (inl stop) = absurd stop
    pair_told both before after pair of (inr on) = first_told both.0 on.value on.between after pair of.0 (given_told second both.1 before on.between on.value of.1 on.given) on.goes_on

    pub given_of_both_found : (before after : History) (pair : Given × Given) → given_of_both (Some files) first second before after (Ok pair) → AreBegun pair
    given_of_both_found before after pair (inl stop) = absurd stop
    given_of_both_found before after pair (inr on) = pair_told on.value on.between after pair (both_told before on.between on.value on.given) on.goes_on
