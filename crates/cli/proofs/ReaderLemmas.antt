-- What the readers of files come to.
use Rattle.std.proofs.Common.{◌≡◌, ◌&&◌, ℕ, Bool, true, false, List, ◌++◌, Option, Some, None, inl, inr, refl, sym, ap, ◌∙◌, subst, subst₂, ⊎_elim}
use Rattle.std.specs.Prelude.{Result, Ok, Err, IfOk, IsOkAnd, MatchResult}
use Rattle.std.specs.Result.{IsErrAnd}
use Rattle.std.proofs.lemmas.Bool.{false≢true}
use Rattle.field_lines.specs.Source.{Given, nothing_given}
use Rattle.field_lines.specs.Values.{GivesUnless}
use Rattle.pl94_counties.specs.declared.fault.File.{File}
use Rattle.pl94_counties.specs.declared.fault.File.TheVariants.{Geo, Segment1}
use Rattle.pl94_counties.specs.declared.fault.Pl94Fault.{Pl94Fault}
use Rattle.pl94_counties.specs.declared.county_names.NamedFault.{NamedFault}
use Rattle.pl94_counties.specs.declared.county_names.NamedFault.TheVariants as names
use Rattle.pl94_counties.specs.PeopleByCode.{IsPl94Memory}
use Rattle.pl94_counties.specs.CountyNames.{IsNoMemory}
use Rattle.pl94_counties.specs.Readers.{IsPl94Refused, is_pl94_read_fault, same_file, read_failed, ReadsBoth, ReadsTexts}
use Rattle.pl94_counties.specs.NamedReaders.{IsNamedRefused, named_read_failed}
use Rattle.cli_file_stores.specs.declared.file_store.ReadEnd.{ReadEnd}
use Rattle.cli_file_stores.specs.declared.file_store.FileStoreFault.{FileStoreFault}
use Rattle.cli_file_stores.specs.Files.{Files}
use Rattle.cli_file_stores.specs.FileStore.{IsLoad, Opens, IsRead, read_end}
use Rattle.cli_file_stores.specs.History.{History, HasLoaded, HasRead}
use Rattle.cli_answers.specs.declared.answer.Refusal.{Refusal}
use Rattle.cli_answers.specs.declared.answer.Refusal.TheVariants.{Shown, Memory}
use Rattle.cli_answers.specs.Answer.{Answered}
use Rattle.cli_answers.specs.Answers.{Comes, AnswerMeets, RefusalShows}
use Rattle.cli_answers.specs.Refusals.{file_store_answer}
use Rattle.run_laws.specs.Steps.{Steps, ◌>>=◌}
use Rattle.run_laws.specs.Reading.{GivenBack, open_step, read_step, given_step, back_step, read_both, given_pair, given_of_both, OfTexts}
use Rattle.run_laws.proofs.RunLemmas.{came, went_on}
use Rattle.certificate_checker.specs.declared.fault.CheckStop.{CheckStop}
use Rattle.cli_words.specs.declared.words.CertificateWords.{CertificateWords}
use Rattle.cli_reports.specs.declared.table_runs.Reported as held
use Rattle.run_laws.specs.CheckSteps.{IsChecked, ChecksGiven}
use Rattle.run_laws.specs.TableSteps.{Tabled}
use Rattle.cli_reports.specs.Texts.{reported_of}
use Rattle.cli.specs.Streams.{given_back, both_given_back, AreBack, checked_file}
use Rattle.cli_words.specs.declared.words.Form.{Form}

-- an answer that is shown
pub shown : (refusal : Refusal) (want : Answered) (P : Answered → Type 0) → RefusalShows want refusal → P want → AnswerMeets refusal P
shown (Shown a) want P is p = subst P (sym is) p
shown Memory want P is p = tt

pub met : (refusal : Refusal) (P Q : Answered → Type 0) → ((a : Answered) → P a → Q a) → AnswerMeets refusal P → AnswerMeets refusal Q
met (Shown a) P Q f p = f _ p
met Memory P Q f p = tt

-- a file that could not be opened
opening_fault : (X : Type 0) (files : Option Files) (failures : ℕ) (name : List ℕ) (fault : FileStoreFault) → Opens {X = X} files failures name (Err fault)
    → IsLoad {X = List ℕ} (λ bytes. bytes) files failures name (Err fault)
opening_fault X None failures name fault h = tt
opening_fault X (Some files) failures name fault h = h

pub unopened : (X : Type 0) (files : Option Files) (name : List ℕ) (fault : FileStoreFault) (before after : History) (refusal : Refusal)
    → Opens {X = X} files before.failures name (Err fault) → HasLoaded {X = List ℕ} (λ bytes. bytes) before after name (Err fault) → RefusalShows (file_store_answer name fault) refusal
    → AnswerMeets refusal (λ a. open_step files name before after (Err a))
unopened X files name fault before after refusal opened logged is =
    shown refusal (file_store_answer name fault) (λ a. open_step files name before after (Err a)) is (fault, opening_fault X files before.failures name fault opened, logged, refl)

-- what a call came to where the steps end in what was refused
pub came_to_end : {S X : Type 0} (view : S → X) (steps : Result X Answered → Type 0) (end : Result S Refusal) (refusal : Refusal) → IsErrAnd end (λ e. e ≡ refusal)
    → AnswerMeets refusal (λ a. steps (Err a)) → Comes view end steps
came_to_end view steps (Ok found) refusal is h = absurd is
came_to_end view steps (Err e) refusal is h = subst (λ (r : Refusal). AnswerMeets r (λ a. steps (Err a))) (sym is) h

-- one reader was given back
module _ (files : Option Files) (name : List ℕ) (given : Given) (answer : Result ReadEnd FileStoreFault) (before after : History)
    (read : IsRead files name given.bytes answer) (logged : HasRead before after name given.bytes answer) where
  abbrev back : GivenBack
  back = record { bytes = given.bytes; answer = answer }

  pub one_sound : (end : ReadEnd) → answer ≡ Ok end → end ≡ read_end given.ended → given_back files name before after (Ok given)
  one_sound end is at =
      came (read_step files name) (given_step name) back before after after (Ok given) (read, logged) (refl, refl, is ∙ ap (λ (e : ReadEnd). Ok e) at)

  pub one_failed : (fault : FileStoreFault) (refusal : Refusal) → answer ≡ Err fault → RefusalShows (file_store_answer name fault) refusal
      → AnswerMeets refusal (λ a. given_back files name before after (Err a))
  one_failed fault refusal is shows =
      shown refusal (file_store_answer name fault) (λ a. given_back files name before after (Err a)) shows
      (came (read_step files name) (given_step name) back before after after (Err (file_store_answer name fault)) (read, logged) (refl, (fault, is, refl)))

-- two readers were given back, that of the second file first
module _ (files : Option Files) (first second : List ℕ) (x y : Given) (before between after : History) where
  both_sound : (a b : Result ReadEnd FileStoreFault) → back_step files first second before after (Ok (record { bytes = x.bytes; answer = a }, record { bytes = y.bytes; answer = b }))
      → a ≡ Ok (read_end x.ended) → b ≡ Ok (read_end y.ended) → both_given_back files first second before after (Ok (x, y))
  both_sound a b back one other =
      came (back_step files first second) (given_pair first second) (record { bytes = x.bytes; answer = a }, record { bytes = y.bytes; answer = b }) before after after (Ok (x, y)) back
      (inr (record { value = y; between = after; given = (refl, refl, other); goes_on = inr (record { value = x; between = after; given = (refl, refl, one); goes_on = (refl, refl) }) }))

  second_failed : (a b : Result ReadEnd FileStoreFault) (fault : FileStoreFault) (refusal : Refusal)
      → back_step files first second before after (Ok (record { bytes = x.bytes; answer = a }, record { bytes = y.bytes; answer = b }))
      → b ≡ Err fault → RefusalShows (file_store_answer second fault) refusal → AnswerMeets refusal (λ r. both_given_back files first second before after (Err r))
  second_failed a b fault refusal back is shows =
      shown refusal (file_store_answer second fault) (λ r. both_given_back files first second before after (Err r)) shows
      (came (back_step files first second) (given_pair first second) (record { bytes = x.bytes; answer = a }, record { bytes = y.bytes; answer = b }) before after after (Err (file_store_answer second fault)) back
      (inl (refl, (fault, is, refl))))

  first_failed : (a b : Result ReadEnd FileStoreFault) (fault : FileStoreFault) (refusal : Refusal)
      → back_step files first second before after (Ok (record { bytes = x.bytes; answer = a }, record { bytes = y.bytes; answer = b }))
      → a ≡ Err fault → b ≡ Ok (read_end y.ended) → RefusalShows (file_store_answer first fault) refusal → AnswerMeets refusal (λ r. both_given_back files first second before after (Err r))
  first_failed a b fault refusal back is other shows =
      shown refusal (file_store_answer first fault) (λ r. both_given_back files first second before after (Err r)) shows
      (came (back_step files first second) (given_pair first second) (record { bytes = x.bytes; answer = a }, record { bytes = y.bytes; answer = b }) before after after (Err (file_store_answer first fault)) back
      (inr (record { value = y; between = after; given = (refl, refl, other); goes_on = inl (refl, (fault, is, refl)) })))

  came_back : (a b : Result ReadEnd FileStoreFault) (end : Result (Unit {0}) Refusal)
      → back_step files first second before after (Ok (record { bytes = x.bytes; answer = a }, record { bytes = y.bytes; answer = b }))
      → AreBack first second a b end → IfOk a (λ e. e ≡ read_end x.ended) → IfOk b (λ e. e ≡ read_end y.ended)
      → Comes (λ _. (x, y)) end (both_given_back files first second before after)
  came_back (Ok d) (Ok e) (Ok done) back are one other = both_sound (Ok d) (Ok e) back (ap (λ (z : ReadEnd). Ok z) one) (ap (λ (z : ReadEnd). Ok z) other)
  came_back (Ok d) (Ok e) (Err refusal) back are one other = absurd are
  came_back (Ok d) (Err fault) (Ok done) back are one other = absurd are
  came_back (Ok d) (Err fault) (Err refusal) back are one other = second_failed (Ok d) (Err fault) fault refusal back refl are
  came_back (Err kind) (Ok e) (Ok done) back are one other = absurd are
  came_back (Err kind) (Ok e) (Err refusal) back are one other = first_failed (Err kind) (Ok e) kind refusal back refl (ap (λ (z : ReadEnd). Ok z) other) are
  came_back (Err kind) (Err fault) (Ok done) back are one other = absurd are
  came_back (Err kind) (Err fault) (Err refusal) back are one other = second_failed (Err kind) (Err fault) fault refusal back refl are

  pub both_back : (a b : Result ReadEnd FileStoreFault) (end : Result (Unit {0}) Refusal)
      → IsRead files second y.bytes b → HasRead before between second y.bytes b → IsRead files first x.bytes a → HasRead between after first x.bytes a
      → AreBack first second a b end → IfOk a (λ e. e ≡ read_end x.ended) → IfOk b (λ e. e ≡ read_end y.ended)
      → Comes (λ _. (x, y)) end (both_given_back files first second before after)
  both_back a b end read_second logged_second read_first logged_first are one other =
      came_back a b end
      (inr (record {
        value = record { bytes = y.bytes; answer = b };
        between = between;
        given = (read_second, logged_second);
        goes_on = inr (record { value = record { bytes = x.bytes; answer = a }; between = after; given = (read_first, logged_first); goes_on = (refl, refl) });
      }))
      are one other

-- both files were opened, and both readers were given back
module _ (files : Option Files) (first second : List ℕ) where
  -- the first file could not be opened, or the second
  pub first_unopened : (before after : History) (refusal : Refusal) → AnswerMeets refusal (λ a. open_step files first before after (Err a)) → AnswerMeets refusal (λ a. read_both files first second before after (Err a))
  first_unopened before after (Shown a) h = inl h
  first_unopened before after Memory h = tt

  pub second_unopened : (before between after : History) (refusal : Refusal) → open_step files first before between (Ok tt) → AnswerMeets refusal (λ a. open_step files second between after (Err a))
      → AnswerMeets refusal (λ a. read_both files first second before after (Err a))
  second_unopened before between after (Shown a) same h = inr (record { value = tt; between = between; given = same; goes_on = inl h })
  second_unopened before between after Memory same h = tt

  both_read : (before between after : History) (end : Result (GivenBack × GivenBack) Answered) → between ≡ before → back_step files first second between after end
      → read_both files first second before after end
  both_read before between after end same back =
      inr (record { value = tt; between = between; given = same; goes_on = inr (record { value = tt; between = between; given = refl; goes_on = back }) })

  pair_given : (before between after : History) (end : Result (Given × Given) Answered) → between ≡ before → both_given_back files first second between after end
      → given_of_both files first second before after end
  pair_given before between after (Ok pair) same (inl stop) = absurd stop
  pair_given before between after (Err a) same (inl stop) = inl (both_read before between after (Err a) same stop)
  pair_given before between after end same (inr on) =
      inr (record { value = on.value; between = on.between; given = both_read before between on.between (Ok on.value) same on.given; goes_on = on.goes_on })

  module _ {S X : Type 0} (view : S → X) (next : Given × Given → Steps X) where
    abbrev steps : Steps X
    steps = given_of_both files first second >>= next

    pub both_unopened : (before after : History) (refusal : Refusal) → AnswerMeets refusal (λ a. read_both files first second before after (Err a)) → AnswerMeets refusal (λ a. steps before after (Err a))
    both_unopened before after (Shown a) h = inl (inl h)
    both_unopened before after Memory h = tt

    pub both_failed : (before between after : History) (refusal : Refusal) → between ≡ before → AnswerMeets refusal (λ a. both_given_back files first second between after (Err a))
        → AnswerMeets refusal (λ a. steps before after (Err a))
    both_failed before between after (Shown a) same h = inl (pair_given before between after (Err _) same h)
    both_failed before between after Memory same h = tt

    pub both_came : (before between after : History) (pair : Given × Given) (end : Result S Refusal) → between ≡ before → both_given_back files first second between after (Ok pair)
        → Comes view end (next pair after after) → Comes view end (steps before after)
    both_came before between after pair end same h ends =
        went_on view end (given_of_both files first second) next pair before after after (pair_given before between after (Ok pair) same h) ends

-- and over the states of a file store
module _ {H S X : Type 0} (contents : H → Option Files) (history : H → History) (first second : List ℕ) (view : S → X) (next : Given × Given → Steps X) (s t u : H) (same : contents t ≡ contents s) (opened : history t ≡ history s) where
  abbrev BothThen : Result X Answered → Type 0
  BothThen = (given_of_both (contents s) first second >>= next) (history s) (history u)

  pub back_refused : (end : Result S Refusal) (refusal : Refusal) → IsErrAnd end (λ e. e ≡ refusal) → AnswerMeets refusal (λ a. both_given_back (contents t) first second (history t) (history u) (Err a)) → Comes view end BothThen
  back_refused end refusal is met =
      came_to_end view BothThen end refusal is
      (both_failed (contents s) first second view next (history s) (history t) (history u) refusal opened
      (subst (λ (f : Option Files). AnswerMeets refusal (λ a. both_given_back f first second (history t) (history u) (Err a))) same met))

  pub back_sound : (pair : Given × Given) (end : Result S Refusal) → both_given_back (contents t) first second (history t) (history u) (Ok pair) → Comes view end (next pair (history u) (history u)) → Comes view end BothThen
  back_sound pair end back ends =
      both_came (contents s) first second view next (history s) (history t) (history u) pair end opened
      (subst (λ (f : Option Files). both_given_back f first second (history t) (history u) (Ok pair)) same back) ends

-- what holds of each two texts that begin with what was read
pub texts_read : (P : List ℕ → List ℕ → Type 0) (g x s y : Given) → g ≡ nothing_given → s ≡ nothing_given → ReadsTexts g x s y P → OfTexts P x y
texts_read P g x s y none none_too reads = λ geo segment sees sees_too.
    let begun : x.bytes ≡ reads.geo = reads.geo_given ∙ ap (λ (z : Given). z.bytes ++ reads.geo) none in
    let begun_too : y.bytes ≡ reads.segment1 = reads.segment1_given ∙ ap (λ (z : Given). z.bytes ++ reads.segment1) none_too in
    subst₂ P (sym (sees.text ∙ ap (λ (b : List ℕ). b ++ sees.later) begun)) (sym (sees_too.text ∙ ap (λ (b : List ℕ). b ++ sees_too.later) begun_too))
    (reads.holds sees.later sees_too.later sees.may sees_too.may)

-- and with what the readers of them gave
pub texts_given : (P : List ℕ → List ℕ → Type 0) (g x s y a b : Given) → g ≡ nothing_given → s ≡ nothing_given → ReadsTexts g x s y P → a ≡ x → b ≡ y → OfTexts P a b
texts_given P g x s y a b none none_too reads is is_too = subst₂ (OfTexts P) (sym is) (sym is_too) (texts_read P g x s y none none_too reads)

-- a reading was sound if its reader was when it was given back
pub sound_read : {source failed back : Bool} → source ≡ failed → back ≡ source → back ≡ false → failed ≡ false
sound_read is same sound = sym is ∙ (sym same ∙ sound)

-- a fault that isn't that a file could not be read
no_read_fault : (fault : Pl94Fault) (file : File) → file ≡ fault.file → read_failed {X = Unit {0}} Geo (Err fault) ≡ false → read_failed {X = Unit {0}} Segment1 (Err fault) ≡ false → is_pl94_read_fault fault.kind ≡ true → ⊥
no_read_fault fault Geo is one other read = false≢true (sym one ∙ both_true read (ap (same_file Geo) (sym is)))
  where
    both_true : {b d : Bool} → b ≡ true → d ≡ true → (b && d) ≡ true
    both_true e f = cc
no_read_fault fault Segment1 is one other read = false≢true (sym other ∙ both_true read (ap (same_file Segment1) (sym is)))
  where
    both_true : {b d : Bool} → b ≡ true → d ≡ true → (b && d) ≡ true
    both_true e f = cc

pub only_memory : {X Y : Type 0} (view : X → Y) (read : Result X Pl94Fault) (list : List ℕ → List ℕ → Result Y Pl94Fault) (x y : Given) → read_failed Geo read ≡ false → read_failed Segment1 read ≡ false
    → OfTexts (λ g s. GivesUnless IsPl94Refused view read (list g s)) x y → OfTexts (λ g s. GivesUnless IsPl94Memory view read (list g s)) x y
only_memory view (Ok value) list x y one other of = of
only_memory view (Err fault) list x y one other of = λ g s sees sees_too not. of g s sees sees_too (λ refused. ⊎_elim not (no_read_fault fault fault.file refl one other) refused)

pub only_memory_of_names : {X Y : Type 0} (view : X → Y) (read : Result X NamedFault) (list : List ℕ → List ℕ → Result Y NamedFault) (x y : Given) → named_read_failed Geo read ≡ false → named_read_failed Segment1 read ≡ false
    → OfTexts (λ g s. GivesUnless IsNamedRefused view read (list g s)) x y → OfTexts (λ g s. GivesUnless IsNoMemory view read (list g s)) x y
only_memory_of_names view (Ok value) list x y one other of = of
only_memory_of_names view (Err (names.BadName line)) list x y one other of = of
only_memory_of_names view (Err (names.Files fault)) list x y one other of = λ g s sees sees_too not. of g s sees sees_too (λ refused. ⊎_elim not (no_read_fault fault fault.file refl one other) refused)

-- both census files were read as they came, and their readers were given back
module _ {H S X : Type 0} (contents : H → Option Files) (history : H → History) (first second : List ℕ) (view : S → X) (next : Given × Given → Steps X) (s t u : H) (same : contents t ≡ contents s) (opened : history t ≡ history s)
    (a b : Given) (end : Result S Refusal) (back : both_given_back (contents t) first second (history t) (history u) (Ok (a, b))) where
  pub census_came : (list : List ℕ → List ℕ → Result X Pl94Fault) (g x h y : Given) (read : Result S Pl94Fault) → g ≡ nothing_given → h ≡ nothing_given → ReadsBoth view g x h y read list → a ≡ x → b ≡ y
      → read_failed Geo read ≡ false → read_failed Segment1 read ≡ false → (OfTexts (λ p q. GivesUnless IsPl94Memory view read (list p q)) a b → Comes view end (next (a, b) (history u) (history u)))
      → Comes view end ((given_of_both (contents s) first second >>= next) (history s) (history u))
  census_came list g x h y read none none_too reads is is_too sound sound_too ends =
      let texts = texts_given (λ p q. GivesUnless IsPl94Refused view read (list p q)) g x h y a b none none_too
      (record { geo = reads.geo; segment1 = reads.segment1; geo_given = reads.geo_given; segment1_given = reads.segment1_given; holds = reads.value }) is is_too in
      back_sound contents history first second view next s t u same opened (a, b) end back (ends (only_memory view read list a b sound sound_too texts))

  pub named_census_came : (list : List ℕ → List ℕ → Result X NamedFault) (g x h y : Given) (read : Result S NamedFault) → g ≡ nothing_given → h ≡ nothing_given
      → ReadsTexts g x h y (λ p q. GivesUnless IsNamedRefused view read (list p q)) → a ≡ x → b ≡ y
      → named_read_failed Geo read ≡ false → named_read_failed Segment1 read ≡ false → (OfTexts (λ p q. GivesUnless IsNoMemory view read (list p q)) a b → Comes view end (next (a, b) (history u) (history u)))
      → Comes view end ((given_of_both (contents s) first second >>= next) (history s) (history u))
  named_census_came list g x h y read none none_too reads is is_too sound sound_too ends =
      back_sound contents history first second view next s t u same opened (a, b) end back
      (ends (only_memory_of_names view read list a b sound sound_too (texts_given (λ p q. GivesUnless IsNamedRefused view read (list p q)) g x h y a b none none_too reads is is_too)))

-- what was said of a certificate whose reader was given back
pub said_checked : (form : Form) (t : Tabled) (budget : ℕ) (g x given : Given) (checked : Result held.Reported CheckStop) (end : Result held.Reported Refusal) → g ≡ nothing_given → given ≡ x
    → IfOk checked (λ k. ChecksGiven form t budget g x (reported_of k)) → MatchResult end (λ r. IsOkAnd checked (λ k. reported_of k ≡ reported_of r)) (λ refusal. refusal ≡ Memory)
    → MatchResult end (λ r. IsChecked form t budget given (reported_of r)) (λ refusal. refusal ≡ Memory)
said_checked form t budget g x given (Ok k) (Ok r) none same holds is =
    let begun : x.bytes ≡ holds.bytes = holds.are_given ∙ ap (λ (z : Given). z.bytes ++ holds.bytes) none in
    let of_source : IsChecked form t budget x (reported_of k) = subst (λ (b : List ℕ). IsChecked form t budget (record { bytes = b; ended = x.ended }) (reported_of k)) (sym begun) holds.checked in
    subst (IsChecked form t budget given) is (subst (λ (z : Given). IsChecked form t budget z (reported_of k)) (sym same) of_source)
said_checked form t budget g x given (Err stop) (Ok r) none same holds is = absurd is
said_checked form t budget g x given checked (Err refusal) none same holds is = is

-- a certificate was read once, and this was said of it
pub file_checked : (files : Option Files) (words : CertificateWords) (t : Tabled) (before between after : History) (given : Given) (end : Result held.Reported Refusal) → between ≡ before
    → given_back files words.certificate.now between after (Ok given) → MatchResult end (λ r. IsChecked words.problem.common.form t words.budget given (reported_of r)) (λ refusal. refusal ≡ Memory)
    → Comes reported_of end (checked_file files words t before after)
file_checked files words t before between after given end same (inl stop) said = absurd stop
file_checked files words t before between after given (Ok r) same (inr on) said =
    inr (record {
      value = given;
      between = after;
      given = inr (record { value = on.value; between = on.between; given = inr (record { value = tt; between = between; given = same; goes_on = on.given }); goes_on = on.goes_on });
      goes_on = (refl, said);
    })
file_checked files words t before between after given (Err refusal) same (inr on) said =
    subst (λ (r : Refusal). AnswerMeets r (λ a. checked_file files words t before after (Err a))) (sym said) tt
