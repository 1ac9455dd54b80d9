-- What is so of later runs of `check` and of `list` by a certificate that `solve` or `share` stored.
use Rattle.std.specs.Prelude.{◌≡◌, ◌≢◌, ◌≤◌, ◌⊎◌, ℕ, Bool, true, false, List, [], ◌∷◌, Option, Some, None, codes}
use Rattle.std.specs.Borrow.{Bor}
use Rattle.county_problem.specs.ProblemValue.{ProblemValue, problem_of}
use Rattle.pl94_counties.specs.CountyNames.{CountyName}
use Rattle.pl94_counties.specs.declared.county_names.NamedFault.TheVariants.{BadName}
use Rattle.grouping_laws.specs.Grouping.{Grouping}
use Rattle.list_laws.specs.AllBest.{AreAllBest}
use Rattle.list_groupings.specs.ListOrder.{AreInOrder}
use Rattle.cli_words.specs.declared.words.CountyWords.{CountyWords}
use Rattle.cli_words.specs.declared.words.CountyWords.TheVariants.{Census, People}
use Rattle.cli_words.specs.declared.words.ProblemWords.{ProblemWords}
use Rattle.cli_words.specs.declared.words.SolveWords.{SolveWords}
use Rattle.cli_words.specs.declared.words.CheckWords.{CheckWords}
use Rattle.cli_words.specs.declared.words.ListWords.{ListWords}
use Rattle.cli_words.specs.declared.words.ShareWords.{ShareWords}
use Rattle.cli_words.specs.declared.words.CommandWords.TheVariants.{Solve, Check, List as ListAll, Share}
use Rattle.cli_file_stores.specs.Files.{NamedFile, Files}
use Rattle.cli_file_stores.specs.History.{History}
use Rattle.cli_answers.specs.Answer.{Answered, success, budget_answer}
use Rattle.cli_answers.specs.Refusals.{named_answer}
use Rattle.grouping_report.specs.declared.outcome.Outcome.TheVariants as outcome
use Rattle.run_laws.specs.Forms.{has_names, line_in, outcome_in, reads_names, report_in, shown_in}
use Rattle.run_laws.specs.FilesProblem.{AreNamesIf, IsProblemOfFiles, IsGroupingIfNamed}
use Rattle.run_laws.specs.ListSteps.{listing_answer, no_such_grouping}
use Rattle.run_laws.specs.Run.{CommandRun}
use Rattle.run_laws.specs.Headline.{ShareTellsBest}
use Rattle.cli_words.specs.declared.words.Form.{Form}

-- two named files hold the same bytes
abbrev pub HoldsSame : Files → Files → Bor (List ℕ) → Bor (List ℕ) → Type 0
HoldsSame files others name other = files name.now ≡ others other.now

-- two files that need not be named: both are named and hold the same bytes, or neither is named
abbrev pub HoldsSameIfNamed : Files → Files → Option (Bor (List ℕ)) → Option (Bor (List ℕ)) → Type 0
HoldsSameIfNamed files others None None = Unit {0}
HoldsSameIfNamed files others (Some name) (Some other) = HoldsSame files others name other
HoldsSameIfNamed files others _ _ = ⊥

-- the files of two problems' counties are of the same kind, and hold the same bytes
abbrev pub HasSameCounties : Files → Files → CountyWords → CountyWords → Type 0
HasSameCounties files others (Census one) (Census other) =
    HoldsSame files others one.geo other.geo × HoldsSame files others one.segment other.segment
HasSameCounties files others (People one) (People other) = HoldsSame files others one other
HasSameCounties files others _ _ = ⊥

-- Two problems are told by the same bytes: the same chamber, tolerance and state, and the same bytes in the files of
-- the counties, of adjacency, of links and of withdrawn sets, whatever their names.
pub record HasSameProblem (files others : Files) (words other : ProblemWords) : Type 0 where
  pub chamber : words.common.chamber ≡ other.common.chamber
  pub tolerance : words.common.tolerance ≡ other.common.tolerance
  pub state : words.common.state ≡ other.common.state
  pub counties : HasSameCounties files others words.common.counties other.common.counties
  pub adjacency : HoldsSame files others words.adjacency other.adjacency
  pub links : HoldsSameIfNamed files others words.links other.links
  pub withdrawn : HoldsSameIfNamed files others words.withdrawn other.withdrawn

-- The program refused a run for want of something: its budget was too small, a growth was refused, or a file could not
-- be had (the status is then 5).
abbrev pub IsCutOff : Form → Answered → Type 0
IsCutOff form a = (a ≡ line_in form budget_answer) ⊎ (a.status ≡ 5)

-- The names of the counties are read, and the answer is that the NAME of a county isn't UTF-8.
abbrev pub IsUnnamed : Form → Bool → Answered → Type 0
IsUnnamed form false a = ⊥
IsUnnamed form true a = (line : ℕ) × (a ≡ shown_in form (named_answer (BadName line)))

-- what a check answers, in its form, by the names of the counties
abbrev pub Answers : Type 0
Answers = Form → Option (List CountyName) → Answered

-- The answer is one of these, in the form that the words ask for. If the form has the names of the counties, they are
-- those of the files.
abbrev pub IsOneOf : Answers → Files → ProblemWords → Answered → Type 0
IsOneOf answers files words a =
    (named : Option (List CountyName)) × AreNamesIf (has_names words.common.form) files words.common named
    × (a ≡ answers words.common.form named)

-- Every check of this text with the same problem gives one of these answers, unless it was cut off. If a check reads the
-- names of the counties, it may also end at a NAME that isn't UTF-8.
abbrev pub ChecksAs : Files → ProblemWords → List ℕ → Answers → Type 0
ChecksAs files words text answers =
    (others : Files) (check : CheckWords) (before after : History) (stored : List NamedFile) (b : Answered)
    → HasSameProblem files others words check.check.problem → others check.check.certificate.now ≡ Some text
    → CommandRun (Some others) (Check check) before after stored b
    → IsOneOf answers others check.check.problem b
    ⊎ (IsCutOff check.check.problem.common.form b
    ⊎ IsUnnamed check.check.problem.common.form (reads_names check.check.problem.common check.table) b)

-- The answer is the list of all best groupings of the problem of these files, in order. If a grouping is given, its
-- number stands behind the list, or that it isn't listed.
pub record IsListOfFiles (files : Files) (words : ListWords) (which : Option Grouping) (a : Answered) : Type 0 where
  pub v : ProblemValue
  pub problem : IsProblemOfFiles files words.check.problem v
  pub groupings : List Grouping
  pub all : AreAllBest (problem_of v) groupings
  pub in_order : AreInOrder groupings
  pub named : Option (List CountyName)
  pub named_are : AreNamesIf (has_names words.check.problem.common.form) files words.check.problem.common named
  pub answer : a ≡ listing_answer words.check.problem.common.form v named groupings which

-- Every list by this text with the same problem lists all best groupings, so it is never open; unless it finds no
-- grouping of the number, or was cut off. If a grouping's number is asked for, its file is one without a fault. If the
-- table is asked for, a county's NAME may be refused.
abbrev pub ListsAllOfFiles : Files → ProblemWords → List ℕ → Type 0
ListsAllOfFiles files words text =
    (others : Files) (list : ListWords) (which : Option Grouping) (before after : History) (stored : List NamedFile)
    (b : Answered)
    → HasSameProblem files others words list.check.problem → others list.check.certificate.now ≡ Some text
    → IsGroupingIfNamed others list.which which → CommandRun (Some others) (ListAll list) before after stored b
    → IsListOfFiles others list which b
    ⊎ ((b ≡ line_in list.check.problem.common.form no_such_grouping)
    ⊎ (IsCutOff list.check.problem.common.form b
    ⊎ IsUnnamed list.check.problem.common.form (reads_names list.check.problem.common list.groupings) b))

-- where a certificate is named, it was stored first, with a text of which P holds
abbrev pub IsStoredFirst : Option (Bor (List ℕ)) → (List ℕ → Type 0) → List NamedFile → Type 0
IsStoredFirst certificate P stored =
    (name : Bor (List ℕ)) → certificate ≡ Some name
    → (text : List ℕ) × (more : List NamedFile) × (stored ≡ record { name = name.now; bytes = text } ∷ more) × P text

-- the answers by which a grouping is best, and those by which none is lawful
abbrev pub best_said : ProblemValue → Grouping → Answers
best_said v g form named = success (report_in form v named (codes "best") g)

abbrev pub impossible_said : ProblemValue → Answers
impossible_said v form named = record { text = outcome_in form v named outcome.Impossible; status = 1 }

-- the answers tell one outcome of one problem
abbrev pub TellOneOutcome : Answers → Type 0
TellOneOutcome answers =
    (v : ProblemValue) × (((g : Grouping) × (answers ≡ best_said v g)) ⊎ (answers ≡ impossible_said v))

-- A board's target is best, and every check of the certificate that was joined says so.
pub record SharesBest (files : Files) (words : ShareWords) (stored : List NamedFile) (a : Answered) : Type 0 where
  pub told : ShareTellsBest files words a
  pub proof : IsStoredFirst words.certificate
      (λ text. ChecksAs files words.board.problem text (best_said told.v told.target))
      stored

-- What runs of `solve` and of `share` promise of later runs, over files that each was given.
pub record RunsAgree : Type 0 where
  -- where `solve` ends with status 0 or 1, every check of the certificate that it stored tells the same outcome of the
  -- same problem, each in its form
  pub checked : (files : Files) (words : SolveWords) (before after : History) (stored : List NamedFile) (a : Answered)
      → CommandRun (Some files) (Solve words) before after stored a → a.status ≤ 1
      → (answers : Answers) × TellOneOutcome answers × IsOneOf answers files words.problem a
      × IsStoredFirst words.certificate (λ text. ChecksAs files words.problem text answers) stored
  -- where it ends with status 0, every list by the certificate lists all best groupings
  pub listed : (files : Files) (words : SolveWords) (before after : History) (stored : List NamedFile) (a : Answered)
      → CommandRun (Some files) (Solve words) before after stored a → a.status ≡ 0
      → IsStoredFirst words.certificate (ListsAllOfFiles files words.problem) stored
  -- where `share` ends with status 0, every check of the certificate that it stored says that the board's target is
  -- best
  pub shared : (files : Files) (words : ShareWords) (before after : History) (stored : List NamedFile) (a : Answered)
      → CommandRun (Some files) (Share words) before after stored a → a.status ≡ 0 → SharesBest files words stored a
  -- `share` that ends with another status stores nothing
  pub unshared : (files : Files) (words : ShareWords) (before after : History) (stored : List NamedFile) (a : Answered)
      → CommandRun (Some files) (Share words) before after stored a → a.status ≢ 0 → stored ≡ []
