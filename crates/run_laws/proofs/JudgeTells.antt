-- What a run of `judge` tells.
use Rattle.std.proofs.Common.{◌≡◌, ◌≤◌, ◌⊎◌, ℕ, Bool, List, [], Option, Some, None, inl, inr, ◌∙◌}
use Rattle.std.specs.Prelude.{Err}
use Rattle.std.specs.Borrow.{Bor}
use Rattle.county_problem.specs.ProblemValue.{problem_of}
use Rattle.county_problem.specs.declared.grouping_fault.GroupingFault.{GroupingFault}
use Rattle.grouping_laws.specs.Grouping.{Grouping, Lawful, IsBest, IsGreater, counts, sets_of}
use Rattle.cli_words.specs.declared.words.JudgeWords.{JudgeWords}
use Rattle.cli_words.specs.declared.words.CommandWords.TheVariants.{Judge}
use Rattle.cli_file_stores.specs.Files.{NamedFile, Files}
use Rattle.cli_file_stores.specs.History.{History}
use Rattle.cli_answers.specs.Answer.{Answered}
use Rattle.cli_answers.specs.Refusals.{verdict_answer}
use Rattle.run_laws.specs.Forms.{has_names, line_in, reads_names}
use Rattle.run_laws.specs.Steps.{Steps, ◌>>=◌, load_step, value_step}
use Rattle.run_laws.specs.TableSteps.{Tabled, Reported}
use Rattle.run_laws.specs.FilesProblem.{AreNamesIf, IsProblemOfFiles, IsTableOfFiles, IsGroupingOfFile}
use Rattle.run_laws.specs.Storing.{IsStoredAs, named_file}
use Rattle.run_laws.specs.Run.{CommandRun}
use Rattle.run_laws.specs.ProblemSteps.{grouping_of}
use Rattle.certificate_checker.specs.Answers.{CheckIsRight}
use Rattle.certificate_checker.specs.declared.verdict.Verdict.{Verdict}
use Rattle.certificate_checker.specs.declared.verdict.Verdict.TheVariants.{Best, Impossible, No, Budget}
use Rattle.run_laws.specs.JudgeWithCertificate.{lawful_answer, best_answer, greater_answer, SaysBeside, IsSaidOf, certificate_text_of}
use Rattle.run_laws.specs.JudgeSteps.{judge_step, judge_steps}
use Rattle.run_laws.specs.Headline.{JudgeTellsLawful, JudgeTellsGreater, JudgeTellsFault, Tells}
use Rattle.run_laws.proofs.Refusing.{IsRefusal, Refuses, bind_refuses, load_refuses, value_refuses, tabled_refuses, grouping_refuses}
use Rattle.run_laws.proofs.Ending.{HasEnded, same_status, not_refused, stopped_or_ended}
use Rattle.run_laws.proofs.Shown.{line_status, ends_low}
use Rattle.run_laws.proofs.AnswerStatus.{verdict_status}
use Rattle.run_laws.proofs.Judgments.{best_of_same}
use Rattle.run_laws.proofs.FilesRead.{ReadsTabled, names_shown, went, tabled_reads, problem_of_files, table_stored}
use Rattle.run_laws.proofs.FilesProblemLemmas.{grouping_found}
use Rattle.cli_words.specs.declared.words.Form.{Form}

certificate_refuses : (files : Option Files) (name : Option (Bor (List ℕ))) → Refuses (certificate_text_of files name)
certificate_refuses files None = value_refuses (λ (held : Option (List ℕ)). held ≡ None)
certificate_refuses files (Some name) =
    bind_refuses (load_step files name.now) (λ text. value_step (λ (held : Option (List ℕ)). held ≡ Some text)) (load_refuses files name.now)
    (λ text. value_refuses (λ (held : Option (List ℕ)). held ≡ Some text))

-- what is said of a lawful grouping that isn't shown to be beaten
abbrev IsSaidLawful : Form → Tabled → Grouping → Answered → Type 0
IsSaidLawful form t g a =
    (a ≡ lawful_answer form t.problem t.named g) ⊎ ((a ≡ best_answer form t.problem t.named g) × IsBest (problem_of t.problem) g)

-- what is said of one that is: a target is best, and has greater counts
record IsSaidGreater (form : Form) (t : Tabled) (g : Grouping) (a : Answered) : Type 0 where
  target : Grouping
  best : IsBest (problem_of t.problem) target
  greater : IsGreater (counts (sets_of target)) (counts (sets_of g))
  said : a ≡ greater_answer form t.problem t.named g target

-- what is said of a lawful grouping
said_so : (form : Form) (t : Tabled) (g : Grouping) (budget : ℕ) (text : Option (List ℕ)) (a : Answered) → Lawful (problem_of t.problem) g
    → IsSaidOf form t g budget text a → IsSaidLawful form t g a ⊎ IsSaidGreater form t g a
said_so form t g budget None a lawful is = inl (inl is)
said_so form t g budget (Some text) a lawful by = go by.verdict by.right by.said
  where
    go : (verdict : Verdict) → CheckIsRight (problem_of t.problem) verdict → SaysBeside form t g verdict a
        → IsSaidLawful form t g a ⊎ IsSaidGreater form t g a
    go (Best target) right (inl said) = inl (inr (said.1, best_of_same (problem_of t.problem) g target.groups.items lawful right said.0))
    go (Best target) right (inr said) = inr (record { target = target.groups.items; best = right; greater = said.0; said = said.1 })
    go Impossible right said = inl (inl said)
    go (No fault line) right said = inl (inl said)
    go Budget right said = inl (inl said)

module _ (files : Files) (words : JudgeWords) where
  -- the form of the answer, and whether the names of the counties are read
  abbrev form : Form
  form = words.problem.common.form

  abbrev names_read : Bool
  names_read = reads_names words.problem.common words.table

  -- the steps behind the problem, and behind the grouping
  abbrev with_grouping : Tabled → Grouping → Steps Reported
  with_grouping t g = certificate_text_of (Some files) words.certificate >>= judge_step form t g words.budget

  abbrev with_problem : Tabled → Steps Reported
  with_problem t = grouping_of (Some files) words.grouping.now >>= with_grouping t

  -- ---- they stop: at a refusal, or at the first fault of the grouping
  abbrev StopsAtFault : Answered → Type 0
  StopsAtFault a = IsRefusal a ⊎ JudgeTellsFault files words a

  module _ (t : Tabled) (reads : ReadsTabled files words.problem names_read t) (after : History) (a : Answered) where
    step_stops : (g : Grouping) → IsGroupingOfFile files words.grouping.now g → (text : Option (List ℕ)) (start : History)
        → judge_step form t g words.budget text start after (Err a) → StopsAtFault a
    step_stops g from text start h = inr (record {
      v = t.problem;
      problem = problem_of_files files words.problem t.problem reads.reads;
      grouping = g;
      grouping_is = from;
      fault = h.1.0;
      first = h.1.1;
      answer = h.1.2;
    })

    grouping_stops : (g : Grouping) → IsGroupingOfFile files words.grouping.now g → (start : History) → with_grouping t g start after (Err a) → StopsAtFault a
    grouping_stops g from start (inl stop) = inl (certificate_refuses (Some files) words.certificate start after a stop)
    grouping_stops g from start (inr on) = step_stops g from on.value on.between on.goes_on

    problem_stops : (start : History) → with_problem t start after (Err a) → StopsAtFault a
    problem_stops start (inl stop) = inl (grouping_refuses (Some files) words.grouping.now start after a stop)
    problem_stops start (inr on) = grouping_stops on.value (grouping_found files words.grouping.now start on.between on.value on.given) on.between on.goes_on

  judge_stops : (before after : History) (a : Answered) → judge_steps (Some files) words before after (Err a) → StopsAtFault a
  judge_stops before after a (inl stop) = inl (tabled_refuses (Some files) words.problem names_read before after a stop)
  judge_stops before after a (inr on) =
      problem_stops on.value (tabled_reads files words.problem names_read before on.between on.value on.given) after a on.between on.goes_on

  -- ---- they come to a report
  abbrev TellsOfLawful : List NamedFile → Answered → Type 0
  TellsOfLawful stored a = JudgeTellsLawful files words stored a ⊎ JudgeTellsGreater files words stored a

  ended_tells : (before : History) (stored : List NamedFile) (a : Answered) → HasEnded (judge_steps (Some files) words) (λ r. named_file words.table r.table) (λ r. r.answer) before stored a
      → TellsOfLawful stored a
  ended_tells before stored a h =
      let p = went _ _ before h.between h.s h.given in
      let g = went _ _ p.between h.between h.s p.goes_on in
      let c = went _ _ g.between h.between h.s g.goes_on in
      let reads = tabled_reads files words.problem names_read before p.between p.value p.given in
      let reported = c.goes_on.1 in
      by_said p.value g.value (names_shown files words.problem.common words.table p.value.named reads.names)
      (problem_of_files files words.problem p.value.problem reads.reads) (grouping_found files words.grouping.now p.between g.between g.value g.given) reported.0
      (table_stored files words.problem words.table p.value g.value h.s.table [] stored reads reported.1.1 h.all)
      (said_so form p.value g.value words.budget c.value h.s.answer reported.0 reported.1.0)
    where
      by_said : (t : Tabled) (g : Grouping) → AreNamesIf (has_names form) files words.problem.common t.named → IsProblemOfFiles files words.problem t.problem
          → IsGroupingOfFile files words.grouping.now g → Lawful (problem_of t.problem) g
          → IsStoredAs words.table (IsTableOfFiles files words.problem t.problem g) stored
          → IsSaidLawful form t g h.s.answer ⊎ IsSaidGreater form t g h.s.answer → TellsOfLawful stored a
      by_said t g named_are problem grouping_is lawful table (inl said) = inl (record {
        v = t.problem;
        problem = problem;
        grouping = g;
        grouping_is = grouping_is;
        lawful = lawful;
        named = t.named;
        named_are = named_are;
        answer = said_of said;
        table = table;
      })
        where
          said_of : IsSaidLawful form t g h.s.answer → IsSaidLawful form t g a
          said_of (inl is) = inl (h.said ∙ is)
          said_of (inr is) = inr (h.said ∙ is.0, is.1)
      by_said t g named_are problem grouping_is lawful table (inr said) = inr (record {
        v = t.problem;
        problem = problem;
        grouping = g;
        grouping_is = grouping_is;
        lawful = lawful;
        target = said.target;
        best = said.best;
        greater = said.greater;
        named = t.named;
        named_are = named_are;
        answer = h.said ∙ said.said;
        table = table;
      })

  -- ---- a run
  lawful_status : (t : Tabled) (g : Grouping) (a : Answered) → IsSaidLawful form t g a → a.status ≡ 0
  lawful_status t g a (inl said) = same_status a (lawful_answer form t.problem t.named g) said
  lawful_status t g a (inr said) = same_status a (best_answer form t.problem t.named g) said.0

  fault_status : (f : GroupingFault) (a : Answered) → a ≡ line_in form (verdict_answer f) → a.status ≤ 3
      → ((verdict_answer f).status ≡ 1) ⊎ ((verdict_answer f).status ≡ 5) → a.status ≡ 1
  fault_status f a said low which = by_status which
    where
      same : a.status ≡ (verdict_answer f).status
      same = same_status a (line_in form (verdict_answer f)) said ∙ line_status form (verdict_answer f)

      by_status : ((verdict_answer f).status ≡ 1) ⊎ ((verdict_answer f).status ≡ 5) → a.status ≡ 1
      by_status (inl one) = same ∙ one
      by_status (inr five) = absurd (not_refused a low (inr (same ∙ five)))

  stops_tell : (stored : List NamedFile) (a : Answered) → a.status ≤ 3 → StopsAtFault a → Tells files (Judge words) stored a
  stops_tell stored a low (inl refusal) = absurd (not_refused a low refusal)
  stops_tell stored a low (inr told) = inr (inl (fault_status told.fault a told.answer low (verdict_status told.fault), inr told))

  by_end : (before after : History) (stored : List NamedFile) (a : Answered) → a.status ≤ 3
      → judge_steps (Some files) words before after (Err a) ⊎ HasEnded (judge_steps (Some files) words) (λ r. named_file words.table r.table) (λ r. r.answer) before stored a
      → Tells files (Judge words) stored a
  by_end before after stored a low (inl stop) = stops_tell stored a low (judge_stops before after a stop)
  by_end before after stored a low (inr ended) = by_report (ended_tells before stored a ended)
    where
      by_report : TellsOfLawful stored a → Tells files (Judge words) stored a
      by_report (inl told) = inl (lawful_status (record { problem = told.v; named = told.named }) told.grouping a told.answer, told)
      by_report (inr told) = inr (inl (same_status a _ told.answer, inl told))

  pub judge_tells : (before after : History) (stored : List NamedFile) (a : Answered) → CommandRun (Some files) (Judge words) before after stored a → a.status ≤ 3 → Tells files (Judge words) stored a
  judge_tells before after stored a run low =
      by_end before after stored a low
      (stopped_or_ended (judge_steps (Some files) words) (λ r. named_file words.table r.table) (λ r. r.answer) before after stored a low
      (ends_low (Some files) (Judge words) before after stored a run low))
