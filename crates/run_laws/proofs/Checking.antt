-- A check of a certificate answers what the certificate shows, unless it is cut off.
use Rattle.std.proofs.Common.{◌≡◌, ◌≤◌, ◌⊎◌, ℕ, Bool, List, Option, Some, None, inl, inr, refl, sym, ap, subst, ◌∙◌}
use Rattle.std.specs.Prelude.{Ok, Err, codes}
use Rattle.county_problem.specs.ProblemValue.{ProblemValue, problem_of}
use Rattle.grouping_laws.specs.Grouping.{Grouping}
use Rattle.county_codes.specs.declared.group.Grouping as held
use Rattle.grouping_report.specs.declared.outcome.Outcome.TheVariants as outcome
use Rattle.certificate_checker.specs.Answers.{IsCheckAnswer}
use Rattle.certificate_checker.specs.declared.verdict.Verdict.{Verdict}
use Rattle.certificate_checker.specs.declared.verdict.Verdict.TheVariants.{Best, Impossible, No, Budget}
use Rattle.certificate_checker.specs.CertificateAnswers.{SaysBest, SaysImpossible}
use Rattle.pl94_counties.specs.CountyNames.{CountyName}
use Rattle.cli_words.specs.declared.words.CheckWords.{CheckWords}
use Rattle.cli_words.specs.declared.words.CommandWords.TheVariants.{Check}
use Rattle.cli_file_stores.specs.Files.{NamedFile, Files}
use Rattle.cli_file_stores.specs.History.{History}
use Rattle.cli_answers.specs.Answer.{Answered, success, memory_answer, budget_answer}
use Rattle.run_laws.specs.Forms.{line_in, outcome_in, report_in, reads_names, IsShown}
use Rattle.run_laws.specs.Steps.{◌>>=◌, value_step}
use Rattle.run_laws.specs.TableSteps.{Tabled, Reported, tabled_problem_in}
use Rattle.run_laws.specs.CheckSteps.{IsChecked, check_steps, CheckEnds, verdict_said}
use Rattle.run_laws.specs.Storing.{named_file, store_steps, said_after}
use Rattle.run_laws.specs.Run.{CommandRun}
use Rattle.run_laws.specs.Agreement.{IsCutOff, IsUnnamed, Answers, IsOneOf, best_said, impossible_said}
use Rattle.field_lines.specs.Source.{Given}
use Rattle.field_lines.specs.HeldBytes.{Foresees}
use Rattle.run_laws.specs.Reading.{given_of}
use Rattle.run_laws.proofs.Ending.{same_status}
use Rattle.run_laws.proofs.StoreLemmas.{refusal_status}
use Rattle.run_laws.proofs.FilesRead.{ReadsProblem, names_shown}
use Rattle.run_laws.proofs.Repeating.{EndsBy, bind_ends, value_ends, given_begins}
use Rattle.run_laws.proofs.SameProblem.{IsTabled, tabled_again}
use Rattle.run_laws.proofs.Shown.{IsStopped, at_name, shown_or_cut, cut_shown, stopped_shown}
use Rattle.cli_words.specs.declared.words.Form.{Form}
use Rattle.cli_words.specs.declared.words.Form.TheVariants.{Codes, Names, Object}

-- a check with these names gives its answer, or its budget is too small
abbrev pub Says : Answers → Form → Option (List CountyName) → Answered → Type 0
Says answers form named a = (a ≡ answers form named) ⊎ (a ≡ line_in form budget_answer)

-- the report of an outcome that is best
pub best_report : (form : Form) (v : ProblemValue) (named : Option (List CountyName)) (g : held.Grouping)
    → outcome_in form v named (outcome.Best g) ≡ report_in form v named (codes "best") g.groups.items
best_report Codes v named g = refl
best_report Names v named g = refl
best_report Object v named g = refl

-- what is said of a verdict that says so
said_best : (form : Form) (t : Tabled) (g : Grouping) (verdict : Verdict) → SaysBest g verdict
    → Says (best_said t.problem g) form t.named (verdict_said form t verdict)
said_best form t g (Best target) same =
    inl (ap success (best_report form t.problem t.named target) ∙ ap (λ (items : Grouping). best_said t.problem items form t.named) same)
said_best form t g Impossible same = absurd same
said_best form t g (No fault line) same = absurd same
said_best form t g Budget same = inr refl

said_impossible : (form : Form) (t : Tabled) (verdict : Verdict) → SaysImpossible verdict
    → Says (impossible_said t.problem) form t.named (verdict_said form t verdict)
said_impossible form t (Best target) says = absurd says
said_impossible form t Impossible says = inl refl
said_impossible form t (No fault line) says = absurd says
said_impossible form t Budget says = inr refl

-- what `check` says of one text
pub record ChecksText (form : Form) (t : Tabled) (budget : ℕ) (text : List ℕ) (r : Reported) : Type 0 where
  pub verdict : Verdict
  pub is : IsCheckAnswer (problem_of t.problem) text budget verdict
  pub said : r.answer ≡ verdict_said form t verdict

-- what `check` says of what was read is said of the text that begins with it
checks_text : (form : Form) (t : Tabled) (budget : ℕ) (given : Given) (text : List ℕ) (r : Reported) → IsChecked form t budget given r
    → Foresees given text → ChecksText form t budget text r
checks_text form t budget given text r h sees =
    record { verdict = h.verdict; is = h.is text sees; said = ap (λ (x : Reported). x.answer) h.said }

-- what is said of a text whose every verdict says so, by a check of the same problem
module _ (v : ProblemValue) (text : List ℕ) (budget : ℕ) (form : Form) (t : Tabled) (same : t.problem ≡ v) (r : Reported)
    (h : ChecksText form t budget text r) where
  verdict_is : IsCheckAnswer (problem_of v) text budget h.verdict
  verdict_is = subst (λ (w : ProblemValue). IsCheckAnswer (problem_of w) text budget h.verdict) same h.is

  pub checked_best : (g : Grouping) → ((verdict : Verdict) → IsCheckAnswer (problem_of v) text budget verdict → SaysBest g verdict)
      → Says (best_said v g) form t.named r.answer
  checked_best g says =
      subst (λ (w : ProblemValue). Says (best_said w g) form t.named r.answer) same
      (subst (λ (x : Answered). Says (best_said t.problem g) form t.named x) (sym h.said) (said_best form t g h.verdict (says h.verdict verdict_is)))

  pub checked_impossible : ((verdict : Verdict) → IsCheckAnswer (problem_of v) text budget verdict → SaysImpossible verdict)
      → Says (impossible_said v) form t.named r.answer
  checked_impossible says =
      subst (λ (w : ProblemValue). Says (impossible_said w) form t.named r.answer) same
      (subst (λ (x : Answered). Says (impossible_said t.problem) form t.named x) (sym h.said)
      (said_impossible form t h.verdict (says h.verdict verdict_is)))

-- the answers have status 0, 1 or 3
abbrev pub AreLow : Answers → Type 0
AreLow answers = (form : Form) (named : Option (List CountyName)) → (answers form named).status ≤ 3

-- what every check of a text says that has this problem
abbrev pub ChecksSay : ProblemValue → List ℕ → Answers → Type 0
ChecksSay v text answers =
    (budget : ℕ) (form : Form) (t : Tabled) (r : Reported) → t.problem ≡ v → ChecksText form t budget text r → Says answers form t.named r.answer

-- a check of this text over files that tell the problem
module _ (others : Files) (check : CheckWords) (v : ProblemValue) (text : List ℕ) (answers : Answers) (low : AreLow answers)
    (reads : ReadsProblem others check.check.problem v) (certificate : others check.check.certificate.now ≡ Some text)
    (checked : ChecksSay v text answers) where
  -- the form of its answer, and whether it reads the names of the counties
  abbrev form : Form
  form = check.check.problem.common.form

  abbrev names_read : Bool
  names_read = reads_names check.check.problem.common check.table

  -- its answer is one of these, or its budget is too small
  abbrev IsAgreed : Answered → Type 0
  IsAgreed b = IsOneOf answers others check.check.problem b ⊎ IsCutOff form b

  abbrev IsTold : Tabled → Type 0
  IsTold = IsTabled others check.check.problem v names_read

  agreed : (t : Tabled) (b : Answered) → IsTold t → Says answers form t.named b → IsAgreed b
  agreed t b told (inl said) = inl (t.named, names_shown others check.check.problem.common check.table t.named told.1, said)
  agreed t b told (inr budget) = inr (inl budget)

  steps_end : EndsBy (λ (r : Reported). IsAgreed r.answer) (IsStopped names_read) (check_steps (Some others) check)
  steps_end =
      bind_ends (IsStopped names_read) IsTold (λ (r : Reported). IsAgreed r.answer) (tabled_problem_in (Some others) check.check.problem names_read)
      (λ t. given_of (Some others) check.check.certificate.now >>= λ given. value_step (IsChecked form t check.check.budget given))
      (tabled_again (IsStopped names_read) (λ b five. inl five) others check.check.problem v reads names_read (at_name names_read)) (λ t told.
      bind_ends (IsStopped names_read) (λ (given : Given). Foresees given text) (λ (r : Reported). IsAgreed r.answer)
      (given_of (Some others) check.check.certificate.now) (λ given. value_step (IsChecked form t check.check.budget given))
      (given_begins (IsStopped names_read) (λ b five. inl five) others check.check.certificate.now text certificate) (λ given sees.
      value_ends (IsStopped names_read) (λ (r : Reported). IsAgreed r.answer) (IsChecked form t check.check.budget given) (λ r h.
      agreed t r.answer told (checked check.check.budget form t r told.0 (checks_text form t check.check.budget given text r h sees)))))

  said : (list : List NamedFile) (before after : History) (stored : List NamedFile) (refusal : Option Answered) (b c : Answered) → IsAgreed c
      → store_steps list before after stored refusal → b ≡ said_after refusal c → IsAgreed b
  said list before after stored None b c is stores same = subst IsAgreed (sym same) is
  said list before after stored (Some refusal) b c is stores same =
      inr (inr (same_status b refusal same ∙ refusal_status list before after stored refusal stores))

  ends : (before after : History) (stored : List NamedFile) (b : Answered) → CheckEnds (Some others) check before after stored b
      → IsAgreed b ⊎ IsStopped names_read b
  ends before after stored b (inl stop) = inr (steps_end before after (Err b) stop.0)
  ends before after stored b (inr h) =
      inl (said (named_file check.table h.0.table) h.1 after stored h.2 b h.0.answer (steps_end before h.1 (Ok h.0) h.3) h.4 h.5)

  -- and so it is shown
  abbrev IsAgreedOrStopped : Answered → Type 0
  IsAgreedOrStopped b = IsOneOf answers others check.check.problem b ⊎ (IsCutOff form b ⊎ IsUnnamed form names_read b)

  shown : (raw b : Answered) → IsShown form raw b → IsAgreed raw ⊎ IsStopped names_read raw → IsAgreedOrStopped b
  shown raw b is (inl (inl (named, named_are, one))) = by_kept (shown_or_cut form raw b is low_too)
    where
      low_too : raw.status ≤ 3
      low_too = subst (λ (x : Answered). x.status ≤ 3) (sym one) (low form named)

      by_kept : (b ≡ raw) ⊎ IsCutOff form b → IsAgreedOrStopped b
      by_kept (inl same) = inl (named, named_are, same ∙ one)
      by_kept (inr cut) = inr (inl cut)
  shown raw b is (inl (inr cut)) = inr (inl (cut_shown form raw b is cut))
  shown raw b is (inr stopped) = inr (stopped_shown form names_read raw b is stopped)

  pub check_agrees : (before after : History) (stored : List NamedFile) (b : Answered) → CommandRun (Some others) (Check check) before after stored b
      → IsAgreedOrStopped b
  check_agrees before after stored b (inl memory) = inr (inl (inr (same_status b memory_answer memory.0)))
  check_agrees before after stored b (inr run) = shown run.raw b run.shown (ends before after stored run.raw run.ends)
