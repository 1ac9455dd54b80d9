-- The first fault of the lines at the front of a text: where it stands, of which kinds it is, and that it stays.
use Rattle.std.proofs.Common.{◌≡◌, ℕ, zero, suc, ◌+◌, ◌≤◌, Bool, true, false, List, [], ◌∷◌, ◌++◌, codes, drop, length, Result, Ok, Err, refl, ap, sym, subst, ◌∙◌, arith}
use Rattle.field_lines.specs.RawPieces.{RawLine}
use Rattle.county_codes.specs.declared.group.Group.{Group}
use Rattle.grouping_laws.specs.Grouping.{Grouping}
use Rattle.certificate_lines.specs.Items.{by_words}
use Rattle.certificate_lines.specs.Lines.{most, begins, named, counted, number_at, code_word_at, each, group_on}
use Rattle.certificate_lines.specs.Rest.{text_fault_at}
use Rattle.certificate_lines.specs.Words.{code}
use Rattle.certificate_lines.specs.declared.fault.TextFault.{TextFault}
use Rattle.certificate_lines.specs.declared.fault.TextKind.{TextKind}
use Rattle.certificate_lines.specs.declared.fault.TextKind.TheVariants.{CutShort}
use Rattle.certificate_lines.proofs.LineKinds.{OfLine, Said, cond_said, bind_said, named_said, counted_said, number_at_said, code_at_said, each_said, code_said, group_said, words_then_said}
use Rattle.piece_states.specs.declared.line.ToldLine.{ToldLine}
use Rattle.piece_states.specs.declared.line.ToldLine.TheVariants.{Closed, Least, End}
use Rattle.piece_states.specs.Told.{Asked, Told}
use Rattle.piece_states.specs.PieceValue.{asked_of}
use Rattle.piece_states.specs.TextLines.{greatest, greatest_size, open_on, closed_on, least_on, told_on}
use Rattle.piece_states.specs.Reading.{told_behind, told_from, piece_with, piece_from}
use Rattle.piece_states.proofs.ReadSteps.{told_by_line}
use Rattle.worker_texts.specs.RoundReading.{round_on, groups_before, groups_from, round_with, round_from}
use Rattle.worker_texts.specs.WorkerText.{WorkerTextTold, Round, Open, names_round, in_form, text_from}
use Rattle.worker_texts.proofs.GroupLines.{groups_by_line}
use Rattle.worker_texts.proofs.TextsBack.{by_form}

-- The fault stands on one of the lines or behind the last, and is one of a line. If lines are not missing, it stays
-- whatever lines come behind.
pub record IsTold {X : Type 0} (n : ℕ) (lines : List RawLine) (fault : TextFault) (read : List RawLine → Result X TextFault) : Type 0 where
  pub within : fault.line ≤ n + length lines
  pub of_line : OfLine fault.kind
  pub stays : (fault.kind ≡ CutShort → ⊥) → (later : List RawLine) → read (lines ++ later) ≡ Err fault

-- what each line says is at fault as a line is
round_said : (words : List (List ℕ)) → Said (round_on words)
unfolding round_on
round_said words =
    bind_said (named (codes "round") words) _ (named_said (codes "round") words)
    (λ vs. bind_said (counted 3 3 vs) _ (counted_said 3 3 vs)
    (λ ws. bind_said (number_at 0 greatest ws) _ (number_at_said 0 greatest ws)
    (λ n. bind_said (number_at 0 most n.1) _ (number_at_said 0 most n.1)
    (λ m. bind_said (number_at 0 most m.1) _ (number_at_said 0 most m.1) (λ k. tt)))))

open_said : (words : List (List ℕ)) → Said (open_on words)
unfolding open_on
open_said words =
    bind_said (named (codes "open") words) _ (named_said (codes "open") words)
    (λ vs. bind_said (counted 2 2 vs) _ (counted_said 2 2 vs)
    (λ ws. bind_said (number_at 0 greatest ws) _ (number_at_said 0 greatest ws)
    (λ n. bind_said (number_at 0 greatest n.1) _ (number_at_said 0 greatest n.1) (λ m. tt))))

closed_said : (closing : Bool) (words : List (List ℕ)) → Said (closed_on closing words)
unfolding closed_on
closed_said false words = tt
closed_said true words =
    bind_said (counted 1 most words) _ (counted_said 1 most words) (λ ws. bind_said (each code ws) _ (each_said code code_said ws) (λ cs. tt))

least_said : (words : List (List ℕ)) → Said (least_on words)
unfolding least_on
least_said words =
    bind_said (counted 2 2 words) _ (counted_said 2 2 words)
    (λ ws. bind_said (code_word_at ws) _ (code_at_said ws)
    (λ c. bind_said (number_at 1 greatest_size c.1) _ (number_at_said 1 greatest_size c.1) (λ n. tt)))

told_said : (closing : Bool) (words : List (List ℕ)) → Said (told_on closing words)
unfolding told_on
told_said closing words =
    cond_said (begins (codes "closed") words) _ _ (closed_said closing (drop 1 words))
    (cond_said (begins (codes "least") words) _ _ (least_said (drop 1 words))
    (cond_said (begins (codes "end") words) _ _ (bind_said (counted 0 0 (drop 1 words)) _ (counted_said 0 0 (drop 1 words)) (λ ws. tt)) tt))

-- what stands in front of what is read doesn't change its fault
module _ {X Y : Type 0} (n : ℕ) (piece : RawLine) (lines : List RawLine) (fault : TextFault) (read : List RawLine → Result X TextFault) where
  told_further : (front : List RawLine → Result Y TextFault) → ((later : List RawLine) → read (lines ++ later) ≡ Err fault → front ((piece ∷ lines) ++ later) ≡ Err fault)
      → IsTold (n + 1) lines fault read → IsTold n (piece ∷ lines) fault front
  told_further front same told = record {
    within = omega (arith, told.within);
    of_line = told.of_line;
    stays = λ whole later. same later (told.stays whole later);
  }

-- the line itself is at fault
told_here : {X : Type 0} (n : ℕ) (piece : RawLine) (lines : List RawLine) (kind : TextKind) (fault : TextFault) (front : List RawLine → Result X TextFault)
    → OfLine kind → text_fault_at kind n ≡ fault → ((later : List RawLine) → front ((piece ∷ lines) ++ later) ≡ Err (text_fault_at kind n)) → IsTold n (piece ∷ lines) fault front
told_here n piece lines kind fault front of_line same stays = subst (λ (f : TextFault). IsTold n (piece ∷ lines) f front) same (record {
  within = omega arith;
  of_line = of_line;
  stays = λ whole. stays;
})

-- a line is missing
told_missing : {X : Type 0} (n : ℕ) (fault : TextFault) (front : List RawLine → Result X TextFault) → text_fault_at CutShort n ≡ fault → IsTold n [] fault front
told_missing n fault front same = subst (λ (f : TextFault). IsTold n [] f front) same (record {
  within = omega arith;
  of_line = tt;
  stays = λ whole. absurd (whole refl);
})

-- what a first line tells with the lines behind it
abbrev by_first : {F X Y : Type 0} → (F → List RawLine → Result Y TextFault) → (F → Result Y TextFault → Result X TextFault) → List RawLine → Result F TextKind → Result X TextFault
by_first {X = X} behind with_first lines r = elim r as (λ _. Result X TextFault) [
  | Ok first ↦ with_first first (behind first lines)
  | Err kind ↦ Err (text_fault_at kind 1)
]

same_fault : {X : Type 0} (a b : TextFault) → ◌≡◌ {A = Result X TextFault} (Err a) (Err b) → a ≡ b
same_fault a b h = cc

module _ (fault : TextFault) where
  before_err : (groups : Grouping) (r : Result Grouping TextFault) → groups_before groups r ≡ Err fault → r ≡ Err fault
  before_err groups (Ok later) h = cc
  before_err groups (Err other) h = h

  pub groups_told : (left n : ℕ) (lines : List RawLine) → groups_from left n lines ≡ Err fault → IsTold n lines fault (groups_from left n)
  groups_told zero n lines h = cc
  groups_told (suc left) n [] h = told_missing n fault (groups_from (suc left) n) (same_fault (text_fault_at CutShort n) fault h)
  groups_told (suc left) n (piece ∷ lines) h = go (groups_told left (n + 1) lines) (by_words group_on piece) refl (words_then_said group_on piece group_said) h
    where
      go : (groups_from left (n + 1) lines ≡ Err fault → IsTold (n + 1) lines fault (groups_from left (n + 1))) → (r : Result Group TextKind) → by_words group_on piece ≡ r → Said r
          → groups_by_line left n lines r ≡ Err fault → IsTold n (piece ∷ lines) fault (groups_from (suc left) n)
      go later (Ok group) e said k =
          told_further n piece lines fault (groups_from left (n + 1)) (groups_from (suc left) n)
          (λ more m. ap (groups_by_line left n (lines ++ more)) e ∙ ap (groups_before (group ∷ [])) m)
          (later (before_err (group ∷ []) (groups_from left (n + 1) lines) k))
      go later (Err kind) e said k =
          told_here n piece lines kind fault (groups_from (suc left) n) said (same_fault (text_fault_at kind n) fault k) (λ more. ap (groups_by_line left n (lines ++ more)) e)

  behind_err : (groups : List (List ℕ)) (asked : List Asked) (r : Result Told TextFault) → told_behind groups asked r ≡ Err fault → r ≡ Err fault
  behind_err groups asked (Ok later) h = cc
  behind_err groups asked (Err other) h = h

  pub told_told : (closing : Bool) (n : ℕ) (lines : List RawLine) → told_from closing n lines ≡ Err fault → IsTold n lines fault (told_from closing n)
  told_told closing n [] h = told_missing n fault (told_from closing n) (same_fault (text_fault_at CutShort n) fault h)
  told_told closing n (piece ∷ lines) h =
      go (told_told closing (n + 1) lines) (told_told false (n + 1) lines) (by_words (told_on closing) piece) refl (words_then_said (told_on closing) piece (told_said closing)) h
    where
      go : (told_from closing (n + 1) lines ≡ Err fault → IsTold (n + 1) lines fault (told_from closing (n + 1))) → (told_from false (n + 1) lines ≡ Err fault → IsTold (n + 1) lines fault (told_from false (n + 1)))
          → (r : Result ToldLine TextKind) → by_words (told_on closing) piece ≡ r → Said r → told_by_line closing n lines r ≡ Err fault → IsTold n (piece ∷ lines) fault (told_from closing n)
      go same none (Ok (Closed group)) e said k =
          told_further n piece lines fault (told_from closing (n + 1)) (told_from closing n)
          (λ more m. ap (told_by_line closing n (lines ++ more)) e ∙ ap (told_behind (group ∷ []) []) m)
          (same (behind_err (group ∷ []) [] (told_from closing (n + 1) lines) k))
      go same none (Ok (Least asked)) e said k =
          told_further n piece lines fault (told_from false (n + 1)) (told_from closing n)
          (λ more m. ap (told_by_line closing n (lines ++ more)) e ∙ ap (told_behind [] (asked_of asked ∷ [])) m)
          (none (behind_err [] (asked_of asked ∷ []) (told_from false (n + 1) lines) k))
      go same none (Ok End) e said k = cc
      go same none (Err kind) e said k =
          told_here n piece lines kind fault (told_from closing n) said (same_fault (text_fault_at kind n) fault k) (λ more. ap (told_by_line closing n (lines ++ more)) e)

  -- a first line, and what is read of the lines behind it
  first_told : {F X Y : Type 0} (on : List (List ℕ) → Result F TextKind) (behind : F → List RawLine → Result Y TextFault) (with_first : F → Result Y TextFault → Result X TextFault) (front : List RawLine → Result X TextFault)
      → ((words : List (List ℕ)) → Said (on words)) → front [] ≡ Err (text_fault_at CutShort 1) → ((piece : RawLine) (lines : List RawLine) → front (piece ∷ lines) ≡ by_first behind with_first lines (by_words on piece))
      → ((first : F) (other : TextFault) → with_first first (Err other) ≡ Err other) → ((first : F) (r : Result Y TextFault) → with_first first r ≡ Err fault → r ≡ Err fault)
      → ((first : F) (lines : List RawLine) → behind first lines ≡ Err fault → IsTold 2 lines fault (behind first)) → (lines : List RawLine) → front lines ≡ Err fault → IsTold 1 lines fault front
  first_told on behind with_first front said missing step kept err later [] h = told_missing 1 fault front (same_fault (text_fault_at CutShort 1) fault (sym missing ∙ h))
  first_told {F = F} on behind with_first front said missing step kept err later (piece ∷ lines) h = go (by_words on piece) refl (words_then_said on piece said)
    where
      go : (r : Result F TextKind) → by_words on piece ≡ r → Said r → IsTold 1 (piece ∷ lines) fault front
      go (Ok first) e s =
          told_further 1 piece lines fault (behind first) front
          (λ more m. step piece (lines ++ more) ∙ ap (by_first behind with_first (lines ++ more)) e ∙ ap (with_first first) m ∙ kept first fault)
          (later first lines (err first (behind first lines) (sym (ap (by_first behind with_first lines) e) ∙ sym (step piece lines) ∙ h)))
      go (Err kind) e s =
          told_here 1 piece lines kind fault front s (same_fault (text_fault_at kind 1) fault (sym (ap (by_first behind with_first lines) e) ∙ sym (step piece lines) ∙ h))
          (λ more. step piece (lines ++ more) ∙ ap (by_first behind with_first (lines ++ more)) e)

  round_err : (first : ℕ × ℕ × ℕ) (r : Result Grouping TextFault) → round_with first r ≡ Err fault → r ≡ Err fault
  round_err first (Ok target) h = cc
  round_err first (Err other) h = cc

  pub round_told_at : (lines : List RawLine) → round_from lines ≡ Err fault → IsTold 1 lines fault round_from
  round_told_at = first_told round_on (λ first. groups_from first.2 2) round_with round_from round_said refl (λ piece lines. refl) (λ first other. refl) round_err (λ first. groups_told first.2 2)

  piece_err : (first : ℕ × ℕ) (r : Result Told TextFault) → piece_with first r ≡ Err fault → r ≡ Err fault
  piece_err first (Ok told) h = cc
  piece_err first (Err other) h = cc

  pub piece_told_at : (lines : List RawLine) → piece_from lines ≡ Err fault → IsTold 1 lines fault piece_from
  piece_told_at = first_told open_on (λ first. told_from true 2) piece_with piece_from open_said refl (λ piece lines. refl) (λ first other. refl) piece_err (λ first. told_told true 2)

  form_err : {X : Type 0} (form : X → WorkerTextTold) (r : Result X TextFault) → in_form form r ≡ Err fault → r ≡ Err fault
  form_err form (Ok told) h = cc
  form_err form (Err other) h = cc

  -- the first fault of what lines tell
  pub text_told : (lines : List RawLine) → text_from lines ≡ Err fault → IsTold 1 lines fault text_from
  text_told [] h = told_missing 1 fault text_from (same_fault (text_fault_at CutShort 1) fault h)
  text_told (piece ∷ lines) h = go (names_round (piece ∷ lines)) refl h
    where
      go : (b : Bool) → names_round (piece ∷ lines) ≡ b → by_form (piece ∷ lines) b ≡ Err fault → IsTold 1 (piece ∷ lines) fault text_from
      go true e k =
          let told = round_told_at (piece ∷ lines) (form_err Round (round_from (piece ∷ lines)) k) in
          record {
            within = told.within;
            of_line = told.of_line;
            stays = λ whole later. ap (by_form (piece ∷ (lines ++ later))) e ∙ ap (in_form Round) (told.stays whole later);
          }
      go false e k =
          let told = piece_told_at (piece ∷ lines) (form_err Open (piece_from (piece ∷ lines)) k) in
          record {
            within = told.within;
            of_line = told.of_line;
            stays = λ whole later. ap (by_form (piece ∷ (lines ++ later))) e ∙ ap (in_form Open) (told.stays whole later);
          }
