-- Answers as they are shown in their form.
use Rattle.std.proofs.Common.{◌≡◌, ◌≤◌, ◌⊎◌, ℕ, Bool, true, false, List, Option, inl, inr, refl, sym, ap, subst, ◌∙◌, arith}
use Rattle.std.specs.Prelude.{◌&&◌, codes, nat_eq, not}
use Rattle.std.specs.Cmp.Lexicographic.{pointwise}
use Rattle.std.proofs.lemmas.Bool.{lt-leb}
use Rattle.pl94_counties.specs.declared.county_names.NamedFault.TheVariants.{BadName}
use Rattle.cli_words.specs.declared.words.CommandWords.{CommandWords}
use Rattle.cli_file_stores.specs.Files.{NamedFile, Files}
use Rattle.cli_file_stores.specs.History.{History}
use Rattle.cli_answers.specs.Answer.{Answered, memory_answer, budget_answer}
use Rattle.cli_answers.specs.Refusals.{named_answer}
use Rattle.run_laws.specs.Forms.{form_of_answer, is_refused_line, line_in, shown_if, shown_in, IsShown}
use Rattle.run_laws.specs.Run.{CommandEnds, CommandRun}
use Rattle.run_laws.specs.Agreement.{IsCutOff, IsUnnamed}
use Rattle.run_laws.proofs.Ending.{same_status, not_out_of_memory}
use Rattle.cli_words.specs.declared.words.Form.{Form}
use Rattle.cli_words.specs.declared.words.Form.TheVariants.{Codes, Names, Object}

-- a line has the status of its answer
pub line_status : (form : Form) (a : Answered) → (line_in form a).status ≡ a.status
line_status Codes a = refl
line_status Names a = refl
line_status Object a = refl

if_status : (form : Form) (refused : Bool) (a : Answered) → (shown_if form refused a).status ≡ a.status
if_status Codes refused a = refl
if_status Names refused a = refl
if_status Object false a = refl
if_status Object true a = line_status Object a

plain : (form : Form) (a : Answered) → shown_if form false a ≡ a
plain Codes a = refl
plain Names a = refl
plain Object a = refl

-- an answer with status 0, 1 or 3 is shown as it is
kept : (form : Form) (raw : Answered) → raw.status ≤ 3 → shown_in form raw ≡ raw
kept form raw low =
    let other = not (pointwise nat_eq raw.text (codes "memory\n")) in
    ap (λ (late : Bool). shown_if form (late && other) raw) (lt-leb 4 raw.status (omega (arith, low))) ∙ plain form raw

-- an answer with the codes of the counties is shown as it is
pub shown_plain : (raw a : Answered) → IsShown Codes raw a → a ≡ raw
shown_plain raw a (inl e) = e
shown_plain raw a (inr memory) = absurd (cc memory.0)

module _ (form : Form) (raw a : Answered) where
  pub shown_low : IsShown form raw a → a.status ≤ 3 → a ≡ raw
  shown_low (inl e) low =
      let same : a.status ≡ raw.status = same_status a (shown_in form raw) e ∙ if_status form (is_refused_line raw) raw in
      e ∙ kept form raw (omega arith)
  shown_low (inr memory) low = absurd (not_out_of_memory a low memory.1)

  -- an answer with status 0, 1 or 3 is shown, or it is cut off
  pub shown_or_cut : IsShown form raw a → raw.status ≤ 3 → (a ≡ raw) ⊎ IsCutOff form a
  shown_or_cut (inl e) low = inl (e ∙ kept form raw low)
  shown_or_cut (inr memory) low = inr (inr (same_status a memory_answer memory.1))

  -- an answer that is cut off is shown so
  five_shown : IsShown form raw a → raw.status ≡ 5 → a.status ≡ 5
  five_shown (inl e) five = same_status a (shown_in form raw) e ∙ if_status form (is_refused_line raw) raw ∙ five
  five_shown (inr memory) five = same_status a memory_answer memory.1

  pub cut_shown : IsShown form raw a → IsCutOff form raw → IsCutOff form a
  cut_shown shown (inr five) = inr (five_shown shown five)
  cut_shown shown (inl budget) = by_budget (shown_or_cut shown (omega (arith, three)))
    where
      three : raw.status ≡ 3
      three = same_status raw (line_in form budget_answer) budget ∙ line_status form budget_answer

      by_budget : (a ≡ raw) ⊎ IsCutOff form a → IsCutOff form a
      by_budget (inl same) = inl (same ∙ budget)
      by_budget (inr cut) = cut

-- the names of the counties are read, and a NAME isn't UTF-8
abbrev pub IsAtName : Bool → Answered → Type 0
IsAtName reads a = (reads ≡ true) × (line : ℕ) × (a ≡ named_answer (BadName line))

-- a run ends early: at a fault of the file store, for want of memory, or at a name
abbrev pub IsStopped : Bool → Answered → Type 0
IsStopped reads a = (a.status ≡ 5) ⊎ IsAtName reads a

pub at_name : (reads : Bool) → reads ≡ true → (line : ℕ) → IsStopped reads (named_answer (BadName line))
at_name reads is line = inr (is, line, refl)

-- and this is shown
pub stopped_shown : (form : Form) (reads : Bool) (raw a : Answered) → IsShown form raw a → IsStopped reads raw → IsCutOff form a ⊎ IsUnnamed form reads a
stopped_shown form reads raw a shown (inl five) = inl (inr (five_shown form raw a shown five))
stopped_shown form reads raw a (inr memory) (inr at) = inl (inr (same_status a memory_answer memory.1))
stopped_shown form reads raw a (inl e) (inr at) =
    inr (subst (λ (names : Bool). IsUnnamed form names a) (sym at.0) (at.1, e ∙ ap (shown_in form) at.2))

-- a run with status 0, 1 or 3 ends as its command does
pub ends_low : (files : Option Files) (command : CommandWords) (before after : History) (stored : List NamedFile) (a : Answered)
    → CommandRun files command before after stored a → a.status ≤ 3 → CommandEnds files command before after stored a
ends_low files command before after stored a (inl none) low = absurd (not_out_of_memory a low none.0)
ends_low files command before after stored a (inr run) low =
    subst (λ (x : Answered). CommandEnds files command before after stored x) (sym (shown_low (form_of_answer command) run.raw a run.shown low)) run.ends
