-- What a run of `solve` tells.
use Rattle.std.proofs.Common.{◌≡◌, ◌≤◌, ℕ, List, [], ◌++◌, append-nil, Option, Some, None, inl, inr, refl, sym, ap, ◌∙◌, append_assoc}
use Rattle.county_problem.specs.ProblemValue.{problem_of}
use Rattle.grouping_laws.specs.Grouping.{Grouping}
use Rattle.county_codes.specs.declared.group.Grouping as held
use Rattle.grouping_report.specs.GroupingText.{grouping_text}
use Rattle.grouping_report.specs.declared.outcome.Outcome.TheVariants as outcome
use Rattle.board_report.specs.EventSpelling.{text_of_events}
use Rattle.board_report.specs.Resuming.{resuming_events}
use Rattle.branch_bound.specs.declared.answer.Answer as search
use Rattle.branch_bound.specs.declared.answer.Answer.TheVariants.{Best, Impossible, Open}
use Rattle.branch_bound.specs.Answers.{IsSolveAnswer, SolveIsRight, SaysWhether}
use Rattle.cli_words.specs.declared.words.SolveWords.{SolveWords}
use Rattle.cli_words.specs.declared.words.CommandWords.TheVariants.{Solve}
use Rattle.cli_file_stores.specs.Files.{NamedFile, Files}
use Rattle.cli_file_stores.specs.History.{History}
use Rattle.cli_answers.specs.Answer.{Answered}
use Rattle.run_laws.specs.Forms.{has_names, outcome_in}
use Rattle.run_laws.specs.TableSteps.{table_of}
use Rattle.run_laws.specs.FilesProblem.{AreNamesIf, IsProblemOfFiles, IsTableOfFiles}
use Rattle.run_laws.specs.SolveSteps.{Solved, SaysSolved}
use Rattle.run_laws.specs.Storing.{IsStoredAs, named_file}
use Rattle.run_laws.specs.Run.{CommandRun}
use Rattle.run_laws.specs.Headline.{Tells}
use Rattle.run_laws.proofs.Ending.{same_status}
use Rattle.run_laws.proofs.FilesRead.{problem_of_files, stored_between, table_between}
use Rattle.run_laws.proofs.Agrees.{HasSaid, has_said, shown_names}

module _ (files : Files) (words : SolveWords) (stored : List NamedFile) (a : Answered) (h : HasSaid files words stored a) where
  problem : IsProblemOfFiles files words.problem h.t.problem
  problem = problem_of_files files words.problem h.t.problem h.reads.reads

  answer_is : (s : Solved) → h.s ≡ s → a ≡ s.answer
  answer_is s e = h.said ∙ ap (λ (x : Solved). x.answer) e

  -- the lines of the grouping stand behind the certificate
  lines_between : (g : Grouping) → h.s.grouping ≡ Some (grouping_text g) → IsStoredAs words.out (λ text. text ≡ grouping_text g) stored
  lines_between g is =
      stored_between words.out (λ text. text ≡ grouping_text g) (grouping_text g) h.s.grouping (named_file words.certificate h.s.certificate) (named_file words.table h.s.table ++ named_file words.events h.s.events) stored refl is h.all

  -- the files before the table, and those before the events
  abbrev before_table : List NamedFile
  before_table = named_file words.certificate h.s.certificate ++ named_file words.out h.s.grouping

  all_behind : stored ≡ before_table ++ (named_file words.table h.s.table ++ named_file words.events h.s.events)
  all_behind = h.all ∙ sym (append_assoc (named_file words.certificate h.s.certificate) (named_file words.out h.s.grouping) (named_file words.table h.s.table ++ named_file words.events h.s.events))

  table_behind : (g : Grouping) → h.s.table ≡ table_of h.t g → IsStoredAs words.table (IsTableOfFiles files words.problem h.t.problem g) stored
  table_behind g is = table_between files words.problem words.table h.t g h.s.table before_table (named_file words.events h.s.events) stored h.reads is all_behind

  events_last : (text : List ℕ) → h.s.events ≡ Some text → IsStoredAs words.events (λ t. t ≡ text) stored
  events_last text is =
      let table = named_file words.table h.s.table in
      let events = named_file words.events h.s.events in
      stored_between words.events (λ t. t ≡ text) text h.s.events (before_table ++ table) [] stored refl is
      (all_behind ∙ sym (append_assoc before_table table events) ∙ ap (λ l. (before_table ++ table) ++ l) (sym (append-nil events)))

  -- the names of the counties, if the answer has them
  named_are : AreNamesIf (has_names words.problem.common.form) files words.problem.common h.t.named
  named_are = shown_names files words stored a h

  -- an answer that is open, with the steps that were allowed
  open_answer : (found : Option held.Grouping) (steps : ℕ) → steps ≡ words.steps
      → a ≡ record { text = outcome_in words.problem.common.form h.t.problem h.t.named (outcome.Open found steps); status = 3 }
      → a ≡ record { text = outcome_in words.problem.common.form h.t.problem h.t.named (outcome.Open found words.steps); status = 3 }
  open_answer found steps is said =
      said ∙ ap (λ n. record { text = outcome_in words.problem.common.form h.t.problem h.t.named (outcome.Open found n); status = 3 }) is

  found_tells : (found : search.Answer) → IsSolveAnswer (problem_of h.t.problem) words.steps found → SolveIsRight (problem_of h.t.problem) found
      → SaysWhether (problem_of h.t.problem) words.steps found → SaysSolved words.problem.common.form h.t found h.s → Tells files (Solve words) stored a
  found_tells (Best g c) is best whether said = inl (
    same_status a _ (answer_is _ said.2),
    record {
      v = h.t.problem;
      problem = problem;
      grouping = g;
      best = best;
      named = h.t.named;
      named_are = named_are;
      answer = answer_is _ said.2;
      lines = lines_between g.groups.items (ap (λ (x : Solved). x.grouping) said.2);
      table = table_behind g.groups.items (ap (λ (x : Solved). x.table) said.2);
    },
  )
  found_tells (Impossible c) is best whether said = inr (inl (
    same_status a _ (answer_is _ said.2),
    record { v = h.t.problem; problem = problem; none = whether; named = h.t.named; named_are = named_are; answer = answer_is _ said.2 },
  ))
  found_tells (Open None part steps) is best whether said = inr (inr (
    same_status a _ (answer_is _ said),
    record {
      v = h.t.problem;
      problem = problem;
      found = None;
      part = part;
      is = is.1.0;
      named = h.t.named;
      named_are = named_are;
      answer = open_answer None steps is.0 (answer_is _ said);
      stored_are = tt;
    },
  ))
  found_tells (Open (Some g) part steps) is best whether said = inr (inr (
    same_status a _ (answer_is _ said),
    record {
      v = h.t.problem;
      problem = problem;
      found = Some g;
      part = part;
      is = (is.1.0, is.1.2);
      named = h.t.named;
      named_are = named_are;
      answer = open_answer (Some g) steps is.0 (answer_is _ said);
      stored_are = (
        lines_between g.groups.items (ap (λ (x : Solved). x.grouping) said),
        table_behind g.groups.items (ap (λ (x : Solved). x.table) said),
        events_last (text_of_events (resuming_events part)) (ap (λ (x : Solved). x.events) said),
      );
    },
  ))

pub solve_tells : (files : Files) (words : SolveWords) (before after : History) (stored : List NamedFile) (a : Answered) → CommandRun (Some files) (Solve words) before after stored a → a.status ≤ 3
    → Tells files (Solve words) stored a
solve_tells files words before after stored a run low =
    let h = has_said files words before after stored a run low in
    found_tells files words stored a h h.solved.found h.solved.is h.solved.best h.solved.whether h.solved.said
