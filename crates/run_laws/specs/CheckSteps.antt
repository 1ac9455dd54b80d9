-- The steps of `check`: the problem is built, the certificate is had, and a checker gives its verdict.
use Rattle.std.specs.Prelude.{◌≡◌, ◌++◌, ℕ, List, Option, None}
use Rattle.county_problem.specs.ProblemValue.{problem_of}
use Rattle.grouping_report.specs.declared.outcome.Outcome.TheVariants as outcome
use Rattle.certificate_checker.specs.declared.verdict.Verdict.{Verdict}
use Rattle.certificate_checker.specs.declared.verdict.Verdict.TheVariants.{Best, Impossible, No, Budget}
use Rattle.certificate_checker.specs.Answers.{IsCheckAnswer, CheckIsRight, ShowsImpossible}
use Rattle.cli_words.specs.declared.words.CheckWords.{CheckWords}
use Rattle.cli_file_stores.specs.Files.{NamedFile, Files}
use Rattle.cli_file_stores.specs.History.{History}
use Rattle.cli_answers.specs.Answer.{Answered, success, budget_answer}
use Rattle.cli_answers.specs.CheckLines.{no_answer}
use Rattle.run_laws.specs.Forms.{line_in, outcome_in, reads_names}
use Rattle.run_laws.specs.Steps.{Steps, ◌>>=◌, value_step}
use Rattle.field_lines.specs.Source.{Given}
use Rattle.run_laws.specs.Reading.{given_of, OfText}
use Rattle.run_laws.specs.TableSteps.{Tabled, Reported, tabled_problem_in, table_of}
use Rattle.run_laws.specs.Storing.{EndsStoring, named_file}
use Rattle.cli_words.specs.declared.words.Form.{Form}

-- A verdict, as it is said: the report of the grouping that is best, with status 0; that none is lawful, or the first
-- fault with its line, with status 1; or that the budget is too small.
abbrev pub verdict_said : Form → Tabled → Verdict → Answered
verdict_said form t (Best g) = success (outcome_in form t.problem t.named (outcome.Best g))
verdict_said form t Impossible = record { text = outcome_in form t.problem t.named outcome.Impossible; status = 1 }
verdict_said form t (No fault line) = line_in form (no_answer fault line)
verdict_said form t Budget = line_in form budget_answer

-- the table of a grouping that is best; no other verdict has one
abbrev pub verdict_table : Tabled → Verdict → Option (List ℕ)
verdict_table t (Best g) = table_of t g.groups.items
verdict_table t Impossible = None
verdict_table t (No fault line) = None
verdict_table t Budget = None

-- What `check` says of a certificate is the verdict of a checker with such a budget. It is that on each text which
-- begins with what was read.
pub record IsChecked (form : Form) (t : Tabled) (budget : ℕ) (given : Given) (r : Reported) : Type 0 where
  pub verdict : Verdict
  pub is : OfText (λ text. IsCheckAnswer (problem_of t.problem) text budget verdict) given
  pub best : CheckIsRight (problem_of t.problem) verdict
  pub impossible : ShowsImpossible (problem_of t.problem) verdict
  pub said : r ≡ record { answer = verdict_said form t verdict; table = verdict_table t verdict }

-- what `check` says of the bytes that a source gave meanwhile
pub record ChecksGiven (form : Form) (t : Tabled) (budget : ℕ) (before after : Given) (r : Reported) : Type 0 where
  pub bytes : List ℕ
  pub are_given : after.bytes ≡ before.bytes ++ bytes
  pub checked : IsChecked form t budget (record { bytes = bytes; ended = after.ended }) r

-- `check`: the problem is built before the certificate is opened, which is then read once
abbrev pub check_steps : Option Files → CheckWords → Steps Reported
check_steps files words =
    tabled_problem_in files words.check.problem (reads_names words.check.problem.common words.table)
    >>= λ t. given_of files words.check.certificate.now
    >>= λ given. value_step (IsChecked words.check.problem.common.form t words.check.budget given)

-- `check` ends: at a fault that it met before anything was stored, or with its table stored and its answer, unless the
-- table was refused
abbrev pub CheckEnds : Option Files → CheckWords → History → History → List NamedFile → Answered → Type 0
CheckEnds files words = EndsStoring (check_steps files words) (λ r. named_file words.table r.table) (λ r. r.answer)
