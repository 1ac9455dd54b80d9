-- The steps of `solve`: the problem is built, a solver looks for its best grouping, and what it found is stored and
-- reported.
use Rattle.std.specs.Prelude.{◌≡◌, ℕ, List, ◌++◌, Option, Some, None}
use Rattle.county_problem.specs.ProblemValue.{problem_of}
use Rattle.grouping_report.specs.GroupingText.{grouping_text}
use Rattle.grouping_report.specs.declared.outcome.Outcome.TheVariants as outcome
use Rattle.certificate_data.specs.TreeValue.{certificate_of}
use Rattle.certificate_text.specs.Spelling.{IsSpelling}
use Rattle.branch_bound.specs.declared.answer.Answer as solver
use Rattle.branch_bound.specs.declared.answer.Answer.TheVariants.{Best, Impossible, Open}
use Rattle.board_report.specs.EventSpelling.{text_of_events}
use Rattle.board_report.specs.Resuming.{resuming_events}
use Rattle.branch_bound.specs.Answers.{IsSolveAnswer, SolveIsRight, HasCompleteTree, SaysWhether}
use Rattle.cli_words.specs.declared.words.SolveWords.{SolveWords}
use Rattle.cli_file_stores.specs.Files.{NamedFile, Files}
use Rattle.cli_file_stores.specs.History.{History}
use Rattle.cli_answers.specs.Answer.{Answered, success}
use Rattle.run_laws.specs.Forms.{outcome_in, reads_names}
use Rattle.run_laws.specs.Steps.{Steps, ◌>>=◌, value_step}
use Rattle.run_laws.specs.TableSteps.{Tabled, tabled_problem_in, table_of}
use Rattle.run_laws.specs.Storing.{EndsStoring, named_file}
use Rattle.cli_words.specs.declared.words.Form.{Form}

-- what `solve` says, and the texts for its files: those of the certificate, of the grouping, of the table and of the
-- events
pub record Solved : Type 0 where
  pub answer : Answered
  pub certificate : Option (List ℕ)
  pub grouping : Option (List ℕ)
  pub table : Option (List ℕ)
  pub events : Option (List ℕ)

-- What a solver answers, as it is said: the report, with status 0 where it is best, 1 where none is lawful and 3 where
-- it is open; the text of the certificate; the lines of the grouping and its table, where there is one; and where it is
-- open, the text of the events that go on from there.
abbrev pub SaysSolved : Form → Tabled → solver.Answer → Solved → Type 0
SaysSolved form t (Best g c) s = (text : List ℕ) × IsSpelling text (certificate_of c)
    × (s ≡ record {
      answer =
          success (outcome_in form t.problem t.named (outcome.Best g));
      certificate = Some text;
      grouping = Some (grouping_text g.groups.items);
      table = table_of t g.groups.items;
      events = None;
    })
SaysSolved form t (Impossible c) s = (text : List ℕ) × IsSpelling text (certificate_of c)
    × (s ≡ record {
      answer =
          record { text = outcome_in form t.problem t.named outcome.Impossible; status = 1 };
      certificate = Some text;
      grouping = None;
      table = None;
      events = None;
    })
SaysSolved form t (Open None part steps) s =
    s ≡ record {
      answer = record { text = outcome_in form t.problem t.named (outcome.Open None steps); status = 3 };
      certificate = None;
      grouping = None;
      table = None;
      events = None;
    }
SaysSolved form t (Open (Some g) part steps) s =
    s ≡ record {
      answer =
          record { text = outcome_in form t.problem t.named (outcome.Open (Some g) steps); status = 3 };
      certificate = None;
      grouping = Some (grouping_text g.groups.items);
      table = table_of t g.groups.items;
      events = Some (text_of_events (resuming_events part));
    }

-- what `solve` says of a problem is what a solver answers with this number of steps
pub record IsSolved (form : Form) (t : Tabled) (limit : ℕ) (s : Solved) : Type 0 where
  pub found : solver.Answer
  pub is : IsSolveAnswer (problem_of t.problem) limit found
  pub best : SolveIsRight (problem_of t.problem) found
  pub complete : HasCompleteTree (problem_of t.problem) found
  pub whether : SaysWhether (problem_of t.problem) limit found
  pub said : SaysSolved form t found s

-- `solve`: the problem is built, and the solver answers
abbrev pub solve_steps : Option Files → SolveWords → Steps Solved
solve_steps files words =
    tabled_problem_in files words.problem (reads_names words.problem.common words.table)
    >>= λ t. value_step (IsSolved words.problem.common.form t words.steps)

-- the files that are stored: the certificate first, then the grouping, the table and the events
abbrev pub files_to_store : SolveWords → Solved → List NamedFile
files_to_store words s =
    named_file words.certificate s.certificate
    ++ (named_file words.out s.grouping ++ (named_file words.table s.table ++ named_file words.events s.events))

-- `solve` ends: at a fault that it met before anything was stored, or with its files stored and its answer, unless a
-- file was refused
abbrev pub SolveEnds : Option Files → SolveWords → History → History → List NamedFile → Answered → Type 0
SolveEnds files words = EndsStoring (solve_steps files words) (files_to_store words) (λ s. s.answer)
