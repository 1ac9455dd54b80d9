-- What a run of `check` tells.
use Rattle.std.proofs.Common.{◌≡◌, ◌≤◌, ℕ, List, [], Some, inl, inr, ap, ◌∙◌}
use Rattle.county_problem.specs.ProblemValue.{problem_of}
use Rattle.certificate_checker.specs.Answers.{IsCheckAnswer, CheckIsRight, ShowsImpossible}
use Rattle.certificate_checker.specs.declared.verdict.Verdict.{Verdict}
use Rattle.certificate_checker.specs.declared.verdict.Verdict.TheVariants.{Best, Impossible, No, Budget}
use Rattle.cli_words.specs.declared.words.CheckWords.{CheckWords}
use Rattle.cli_words.specs.declared.words.CommandWords.TheVariants.{Check}
use Rattle.cli_file_stores.specs.Files.{NamedFile, Files}
use Rattle.cli_file_stores.specs.History.{History}
use Rattle.cli_answers.specs.Answer.{Answered, budget_answer}
use Rattle.cli_answers.specs.CheckLines.{no_answer}
use Rattle.run_laws.specs.Forms.{has_names, reads_names}
use Rattle.run_laws.specs.TableSteps.{Tabled, Reported}
use Rattle.run_laws.specs.FilesProblem.{AreNamesIf, IsProblemOfFiles}
use Rattle.run_laws.specs.CheckSteps.{IsChecked, check_steps, verdict_said, verdict_table}
use Rattle.run_laws.specs.Storing.{named_file}
use Rattle.run_laws.specs.Run.{CommandRun}
use Rattle.run_laws.specs.Headline.{Tells}
use Rattle.run_laws.proofs.Ending.{HasEnded, same_status, has_ended}
use Rattle.run_laws.proofs.Shown.{line_status, ends_low}
use Rattle.run_laws.proofs.Refusing.{Refuses, bind_refuses, tabled_refuses, given_refuses, value_refuses}
use Rattle.run_laws.proofs.Texts.{given_of_found}
use Rattle.run_laws.proofs.FilesRead.{ReadsTabled, names_shown, went, tabled_reads, problem_of_files, table_stored}

module _ (files : Files) (words : CheckWords) (stored : List NamedFile) (a : Answered) (t : Tabled) (reads : ReadsTabled files words.check.problem (reads_names words.check.problem.common words.table) t)
    (text : List ℕ) (held : files words.check.certificate.now ≡ Some text) (r : Reported) (all : stored ≡ named_file words.table r.table) where
  problem : IsProblemOfFiles files words.check.problem t.problem
  problem = problem_of_files files words.check.problem t.problem reads.reads

  -- the names of the counties, if the answer has them
  named_are : AreNamesIf (has_names words.check.problem.common.form) files words.check.problem.common t.named
  named_are = names_shown files words.check.problem.common words.table t.named reads.names

  verdict_tells : (verdict : Verdict) → IsCheckAnswer (problem_of t.problem) text words.check.budget verdict → CheckIsRight (problem_of t.problem) verdict → ShowsImpossible (problem_of t.problem) verdict
      → a ≡ verdict_said words.check.problem.common.form t verdict → r.table ≡ verdict_table t verdict → Tells files (Check words) stored a
  verdict_tells (Best g) is best none said table = inl (
    same_status a _ said,
    record {
      v = t.problem;
      problem = problem;
      grouping = g;
      best = best;
      named = t.named;
      named_are = named_are;
      answer = said;
      table = table_stored files words.check.problem words.table t g.groups.items r.table [] stored reads table all;
    },
  )
  verdict_tells Impossible is best none said table = inr (inl (
    same_status a _ said,
    inl (record { v = t.problem; problem = problem; none = none; named = t.named; named_are = named_are; answer = said }),
  ))
  verdict_tells (No fault line) is best none said table = inr (inl (
    same_status a _ said ∙ line_status words.check.problem.common.form (no_answer fault line),
    inr (record {
      v = t.problem;
      problem = problem;
      certificate = text;
      certificate_is = held;
      fault = fault;
      line = line;
      first = is;
      answer = said;
    }),
  ))
  verdict_tells Budget is best none said table = inr (inr (
    same_status a _ said ∙ line_status words.check.problem.common.form budget_answer,
    record { v = t.problem; problem = problem; certificate = text; certificate_is = held; above = is; answer = said },
  ))

check_refuses : (files : Files) (words : CheckWords) → Refuses (check_steps (Some files) words)
check_refuses files words =
    bind_refuses _ _ (tabled_refuses (Some files) words.check.problem (reads_names words.check.problem.common words.table)) (λ t.
    bind_refuses _ _ (given_refuses (Some files) words.check.certificate.now)
    (λ given. value_refuses (IsChecked words.check.problem.common.form t words.check.budget given)))

ended_tells : (files : Files) (words : CheckWords) (before : History) (stored : List NamedFile) (a : Answered)
    → HasEnded (check_steps (Some files) words) (λ r. named_file words.table r.table) (λ r. r.answer) before stored a → Tells files (Check words) stored a
ended_tells files words before stored a h =
    let p = went _ _ before h.between h.s h.given in
    let t = went _ _ p.between h.between h.s p.goes_on in
    let c : IsChecked words.check.problem.common.form p.value words.check.budget t.value h.s = t.goes_on.1 in
    let reads = tabled_reads files words.check.problem (reads_names words.check.problem.common words.table) before p.between p.value p.given in
    let begun = given_of_found files words.check.certificate.now p.between t.between t.value t.given in
    verdict_tells files words stored a p.value reads begun.text begun.is h.s h.all
    c.verdict (c.is begun.text begun.sees) c.best c.impossible (h.said ∙ ap (λ (x : Reported). x.answer) c.said) (ap (λ (x : Reported). x.table) c.said)

pub check_tells : (files : Files) (words : CheckWords) (before after : History) (stored : List NamedFile) (a : Answered) → CommandRun (Some files) (Check words) before after stored a → a.status ≤ 3
    → Tells files (Check words) stored a
check_tells files words before after stored a run low =
    ended_tells files words before stored a
    (has_ended (check_steps (Some files) words) (λ r. named_file words.table r.table) (λ r. r.answer) before after stored a low (check_refuses files words)
    (ends_low (Some files) (Check words) before after stored a run low))
