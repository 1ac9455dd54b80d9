-- What `judge` says of a lawful grouping: that it is lawful, or by a certificate that it is best, or that another
-- lawful grouping has greater counts.
use Rattle.std.specs.Prelude.{◌≡◌, ◌⊎◌, ◌++◌, ℕ, List, Option, Some, None, codes}
use Rattle.std.specs.Borrow.{Bor}
use Rattle.county_problem.specs.ProblemValue.{ProblemValue, problem_of}
use Rattle.grouping_laws.specs.Grouping.{Grouping, IsGreater, counts, sets_of}
use Rattle.grouping_report.specs.Report.{report_text, counts_line}
use Rattle.json_report.specs.ReportObject.{greater_json}
use Rattle.pl94_counties.specs.CountyNames.{CountyName}
use Rattle.certificate_checker.specs.declared.verdict.Verdict.{Verdict}
use Rattle.certificate_checker.specs.declared.verdict.Verdict.TheVariants.{Best}
use Rattle.certificate_checker.specs.Answers.{IsCheckAnswer, CheckIsRight}
use Rattle.cli_file_stores.specs.Files.{Files}
use Rattle.cli_answers.specs.Answer.{Answered, success}
use Rattle.run_laws.specs.Forms.{report_in, with_names}
use Rattle.run_laws.specs.TableSteps.{Tabled}
use Rattle.run_laws.specs.Steps.{Steps, ◌>>=◌, load_step, optional_step, value_step}
use Rattle.cli_words.specs.declared.words.Form.{Form}
use Rattle.cli_words.specs.declared.words.Form.TheVariants.{Codes, Names, Object}

-- two groupings have as many groups of each size
abbrev pub HasSameCounts : Grouping → Grouping → Type 0
HasSameCounts g h = (size : ℕ) → counts (sets_of g) size ≡ counts (sets_of h) size

-- the report in which a grouping is called lawful, and the one in which it is called best
abbrev pub lawful_answer : Form → ProblemValue → Option (List CountyName) → Grouping → Answered
lawful_answer form v named g = success (report_in form v named (codes "lawful") g)

abbrev pub best_answer : Form → ProblemValue → Option (List CountyName) → Grouping → Answered
best_answer form v named g = success (report_in form v named (codes "best") g)

-- the last line of a report where another lawful grouping has greater counts: the counts of that grouping
abbrev pub greater_line : Grouping → List ℕ
greater_line target = codes "greater " ++ counts_line (sets_of target)

-- the report in which a grouping is called lawful, and behind it that this target has greater counts
abbrev pub greater_in : Form → ProblemValue → Option (List CountyName) → Grouping → Grouping → List ℕ
greater_in Codes v named g target = report_text v (codes "lawful") g ++ greater_line target
greater_in Names v named g target = with_names named (report_text v (codes "lawful") g ++ greater_line target)
greater_in Object v named g target = greater_json v named g target

abbrev pub greater_answer : Form → ProblemValue → Option (List CountyName) → Grouping → Grouping → Answered
greater_answer form v named g target = record { text = greater_in form v named g target; status = 1 }

-- what is said of a lawful grouping beside the verdict that a target is best: that the grouping is best if it has the
-- same counts, and that the target has greater counts if it has
abbrev pub SaysBesideBest : Form → Tabled → Grouping → Grouping → Answered → Type 0
SaysBesideBest form t g target a =
    (HasSameCounts g target × (a ≡ best_answer form t.problem t.named g))
    ⊎ (IsGreater (counts (sets_of target)) (counts (sets_of g)) × (a ≡ greater_answer form t.problem t.named g target))

-- what is said of a lawful grouping beside a verdict; beside another verdict than `Best` it is that the grouping is
-- lawful
abbrev pub SaysBeside : Form → Tabled → Grouping → Verdict → Answered → Type 0
SaysBeside form t g (Best target) a = SaysBesideBest form t g target.groups.items a
SaysBeside form t g _ a = a ≡ lawful_answer form t.problem t.named g

-- What is said of a lawful grouping by a text: what a checker's verdict with such a budget makes of it. If the verdict
-- is that a target is best, it is.
pub record IsSaidBy (form : Form) (t : Tabled) (g : Grouping) (budget : ℕ) (text : List ℕ) (a : Answered) : Type 0 where
  pub verdict : Verdict
  pub is : IsCheckAnswer (problem_of t.problem) text budget verdict
  pub said : SaysBeside form t g verdict a
  pub right : CheckIsRight (problem_of t.problem) verdict

-- what is said of a lawful grouping, where the text of a certificate may be given: without one, that it is lawful
abbrev pub IsSaidOf : Form → Tabled → Grouping → ℕ → Option (List ℕ) → Answered → Type 0
IsSaidOf form t g budget None a = a ≡ lawful_answer form t.problem t.named g
IsSaidOf form t g budget (Some text) a = IsSaidBy form t g budget text a

-- the text of a certificate whose file is named, else none
abbrev pub certificate_text_of : Option Files → Option (Bor (List ℕ)) → Steps (Option (List ℕ))
certificate_text_of files name =
    optional_step None (λ file. load_step files file >>= λ text. value_step (λ held. held ≡ Some text)) name
