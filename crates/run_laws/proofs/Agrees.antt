-- What a run of `solve` said, and that every check of the certificate that it stored says the same.
use Rattle.std.proofs.Common.{◌≡◌, ◌≢◌, ◌≤◌, ℕ, Bool, List, ◌∷◌, ◌++◌, Option, Some, None, inl, inr, refl, sym, ap, ap₂, ◌∙◌, arith}
use Rattle.std.specs.Prelude.{Ok}
use Rattle.std.specs.Borrow.{Bor}
use Rattle.county_problem.specs.ProblemValue.{problem_of}
use Rattle.certificate_data.specs.TreeValue.{certificate_of}
use Rattle.branch_bound.specs.declared.answer.Answer as solver
use Rattle.branch_bound.specs.declared.answer.Answer.TheVariants.{Best, Impossible, Open}
use Rattle.branch_bound.specs.Answers.{IsSolveAnswer}
use Rattle.certificate_checker.proofs.Agrees as texts
use Rattle.cli_words.specs.declared.words.SolveWords.{SolveWords}
use Rattle.cli_words.specs.declared.words.CommandWords.TheVariants.{Solve}
use Rattle.cli_file_stores.specs.Files.{NamedFile, Files}
use Rattle.cli_file_stores.specs.History.{History}
use Rattle.cli_answers.specs.Answer.{Answered, success}
use Rattle.run_laws.specs.Forms.{has_names, reads_names}
use Rattle.run_laws.specs.FilesProblem.{AreNamesIf}
use Rattle.run_laws.specs.TableSteps.{Tabled}
use Rattle.run_laws.specs.SolveSteps.{Solved, SaysSolved, IsSolved, solve_steps, files_to_store}
use Rattle.run_laws.specs.Storing.{named_file}
use Rattle.run_laws.specs.Run.{CommandRun}
use Rattle.run_laws.specs.Agreement.{Answers, ChecksAs, IsOneOf, IsStoredFirst, TellOneOutcome, best_said, impossible_said}
use Rattle.run_laws.proofs.Refusing.{Refuses, bind_refuses, tabled_refuses, value_refuses}
use Rattle.run_laws.proofs.Ending.{same_status, has_ended}
use Rattle.run_laws.proofs.Shown.{ends_low}
use Rattle.run_laws.proofs.FilesRead.{ReadsTabled, names_shown, tabled_reads, reads_again}
use Rattle.run_laws.proofs.Checking.{best_report, checked_best, checked_impossible, AreLow, ChecksSay, check_agrees}

-- what a run said, after it stored all its files
pub record HasSaid (files : Files) (words : SolveWords) (stored : List NamedFile) (a : Answered) : Type 0 where
  pub t : Tabled
  pub reads : ReadsTabled files words.problem (reads_names words.problem.common words.table) t
  pub s : Solved
  pub solved : IsSolved words.problem.common.form t words.steps s
  pub all : stored ≡ files_to_store words s
  pub said : a ≡ s.answer

module _ (files : Files) (words : SolveWords) (before after : History) (stored : List NamedFile) (a : Answered) where
  abbrev names_read : Bool
  names_read = reads_names words.problem.common words.table

  solve_refuses : Refuses (solve_steps (Some files) words)
  solve_refuses = bind_refuses _ _ (tabled_refuses (Some files) words.problem names_read)
      (λ t. value_refuses (IsSolved words.problem.common.form t words.steps))

  said_of : (s : Solved) (between : History) → solve_steps (Some files) words before between (Ok s) → stored ≡ files_to_store words s → a ≡ s.answer
      → HasSaid files words stored a
  said_of s between (inl stop) all said = absurd stop
  said_of s between (inr g) all said = record {
    t = g.value;
    reads = tabled_reads files words.problem names_read before g.between g.value g.given;
    s = s;
    solved = g.goes_on.1;
    all = all;
    said = said;
  }

  pub has_said : CommandRun (Some files) (Solve words) before after stored a → a.status ≤ 3 → HasSaid files words stored a
  has_said run low =
      let ends = ends_low (Some files) (Solve words) before after stored a run low in
      let end = has_ended (solve_steps (Some files) words) (files_to_store words) (λ s. s.answer) before after stored a low solve_refuses ends in
      said_of end.s end.between end.given end.all end.said

-- the files that are stored behind the certificate
abbrev pub stored_later : SolveWords → Solved → List NamedFile
stored_later words s = named_file words.out s.grouping ++ (named_file words.table s.table ++ named_file words.events s.events)

-- the certificate is the first file that is stored
pub stored_first : (words : SolveWords) (s : Solved) (name : Bor (List ℕ)) (text : List ℕ) → words.certificate ≡ Some name → s.certificate ≡ Some text
    → files_to_store words s ≡ record { name = name.now; bytes = text } ∷ stored_later words s
stored_first words s name text named spelled =
    ap₂ (λ (n : Option (Bor (List ℕ))) (t : Option (List ℕ)). named_file n t ++ stored_later words s) named spelled

-- a run that gives one of these answers, as every check of the certificate that it stored does
pub record AgreesAs (files : Files) (words : SolveWords) (stored : List NamedFile) (a : Answered) (answers : Answers) : Type 0 where
  pub tell : TellOneOutcome answers
  pub one : IsOneOf answers files words.problem a
  pub proof : IsStoredFirst words.certificate (λ text. ChecksAs files words.problem text answers) stored

module _ (files : Files) (words : SolveWords) (stored : List NamedFile) (a : Answered) (h : HasSaid files words stored a) where
  -- the names of the counties, if the answer has them
  pub shown_names : AreNamesIf (has_names words.problem.common.form) files words.problem.common h.t.named
  shown_names = names_shown files words.problem.common words.table h.t.named h.reads.names

  pub answer_is : (s : Solved) → h.s ≡ s → a ≡ s.answer
  answer_is s e = h.said ∙ ap (λ (x : Solved). x.answer) e

  -- the answer to what was found has another status
  pub other_status : (s : Solved) (n m : ℕ) → h.s ≡ s → a.status ≡ n → s.answer.status ≡ m → n ≢ m → ⊥
  other_status s n m e is other apart = apart (sym is ∙ same_status a s.answer (answer_is s e) ∙ other)

  -- what every check of a text says, every check of the stored certificate says
  stored_proof : (text : List ℕ) (answers : Answers) → AreLow answers → ChecksSay h.t.problem text answers → h.s.certificate ≡ Some text
      → IsStoredFirst words.certificate (λ text. ChecksAs files words.problem text answers) stored
  stored_proof text answers low checked spelled name named = (
    text,
    stored_later words h.s,
    h.all ∙ stored_first words h.s name text named spelled,
    λ others check start end more b same certificate.
        check_agrees others check h.t.problem text answers low
        (reads_again files others words.problem check.check.problem h.t.problem same h.reads.reads) certificate checked start end more b,
  )

  proves : (found : solver.Answer) → IsSolveAnswer (problem_of h.t.problem) words.steps found → SaysSolved words.problem.common.form h.t found h.s
      → a.status ≤ 1 → (answers : Answers) × AgreesAs files words stored a answers
  proves (Best g c) is said low = (
    best_said h.t.problem g.groups.items,
    record {
      tell = (h.t.problem, inl (g.groups.items, refl));
      one = (h.t.named, shown_names, answer_is _ said.2 ∙ ap success (best_report words.problem.common.form h.t.problem h.t.named g));
      proof = stored_proof said.0 (best_said h.t.problem g.groups.items) (λ form named. omega arith)
          (λ budget form t r same checked. checked_best h.t.problem said.0 budget form t same r checked g.groups.items
          (λ verdict. texts.agrees.best (problem_of h.t.problem) said.0 (certificate_of c) g.groups.items budget verdict said.1 is.1.proves is.1.target_is))
          (ap (λ (x : Solved). x.certificate) said.2);
    },
  )
  proves (Impossible c) is said low = (
    impossible_said h.t.problem,
    record {
      tell = (h.t.problem, inr refl);
      one = (h.t.named, shown_names, answer_is _ said.2);
      proof = stored_proof said.0 (impossible_said h.t.problem) (λ form named. omega arith)
          (λ budget form t r same checked. checked_impossible h.t.problem said.0 budget form t same r checked
          (λ verdict. texts.agrees.impossible (problem_of h.t.problem) said.0 (certificate_of c) budget verdict said.1 is.1.proves is.1.target_is))
          (ap (λ (x : Solved). x.certificate) said.2);
    },
  )
  proves (Open None part steps) is said low = let three : a.status ≡ 3 = same_status a _ (answer_is _ said) in absurd (omega arith)
  proves (Open (Some g) part steps) is said low = let three : a.status ≡ 3 = same_status a _ (answer_is _ said) in absurd (omega arith)

pub checked : (files : Files) (words : SolveWords) (before after : History) (stored : List NamedFile) (a : Answered)
    → CommandRun (Some files) (Solve words) before after stored a → a.status ≤ 1
    → (answers : Answers) × TellOneOutcome answers × IsOneOf answers files words.problem a
    × IsStoredFirst words.certificate (λ text. ChecksAs files words.problem text answers) stored
checked files words before after stored a run low =
    let h = has_said files words before after stored a run (omega arith) in
    let agrees = proves files words stored a h h.solved.found h.solved.is h.solved.said low in
    (agrees.0, agrees.1.tell, agrees.1.one, agrees.1.proof)
