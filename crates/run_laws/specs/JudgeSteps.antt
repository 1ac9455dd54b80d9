-- The steps of the size table, of the judge of a grouping and of the audit of a plan.
use Rattle.std.specs.Prelude.{◌≡◌, ℕ, Bool, true, false, List, [], ◌∷◌, Option, Some, None, Result, Ok, Err, is_some}
use Rattle.county_problem.specs.declared.grouping_fault.GroupingFault.{GroupingFault}
use Rattle.county_problem.specs.ProblemValue.{ProblemValue, problem_of}
use Rattle.grouping_laws.specs.Grouping.{Grouping, Lawful}
use Rattle.county_problem.specs.Judging.{IsFault}
use Rattle.county_codes.specs.declared.county.County.{County}
use Rattle.grouping_table.specs.Table.{unnamed_counties as without_names}
use Rattle.pl94_counties.specs.CountyNames.{CountyName}
use Rattle.pl94_counties.specs.declared.blocks.Block.{Block}
use Rattle.baf_auditor.specs.declared.assignments.Assignment.{Assignment}
use Rattle.baf_auditor.specs.Findings.{AreFindings, plan_of}
use Rattle.baf_auditor.specs.DistrictList.{AreDistricts}
use Rattle.baf_auditor.specs.declared.district.District.{District}
use Rattle.district_table.specs.DistrictTable.{IsDistrictsText}
use Rattle.baf_auditor.specs.declared.finding.Finding.{Finding}
use Rattle.cli_words.specs.declared.words.CommonWords.{CommonWords}
use Rattle.cli_words.specs.declared.words.JudgeWords.{JudgeWords}
use Rattle.cli_words.specs.declared.words.AuditWords.{AuditWords}
use Rattle.cli_file_stores.specs.Files.{NamedFile, Files}
use Rattle.cli_file_stores.specs.History.{History}
use Rattle.cli_answers.specs.Answer.{Answered, success}
use Rattle.cli_answers.specs.Refusals.{verdict_answer}
use Rattle.run_laws.specs.Forms.{findings_in, has_names, line_in, reads_names, size_in}
use Rattle.run_laws.specs.Steps.{Steps, ◌>>=◌, call_step, value_step}
use Rattle.run_laws.specs.ProblemSteps.{counties_steps, build_step, problem_steps, grouping_of}
use Rattle.run_laws.specs.JudgeWithCertificate.{IsSaidOf, certificate_text_of}
use Rattle.run_laws.specs.PlanSteps.{blocks_of, plan_assignments}
use Rattle.run_laws.specs.Storing.{EndsStoring, named_file}
use Rattle.run_laws.specs.TableSteps.{Tabled, Reported, named_counties_of, tabled_problem_in, table_of}
use Rattle.cli_words.specs.declared.words.Form.{Form}

-- the size table of counties that may have names, without pairs and withdrawn sets
abbrev pub sizes_of : CommonWords → Option (List CountyName) → List County → Steps Answered
sizes_of words named counties =
    build_step words.chamber words.tolerance counties [] []
    >>= λ v. value_step (λ a. a ≡ success (size_in words.form v named))

-- the counties are read, with their names if the answer has them
abbrev pub sizes_by : Bool → Option Files → CommonWords → Steps Answered
sizes_by false files words = counties_steps files words >>= sizes_of words None
sizes_by true files words =
    named_counties_of files words >>= λ named. sizes_of words (Some named) (without_names named)

-- `size`: the size table of the counties
abbrev pub size_steps : Option Files → CommonWords → Steps Answered
size_steps files words = sizes_by (has_names words.form) files words

-- the table is that of the grouping
abbrev pub HasTable : Tabled → Grouping → Reported → Type 0
HasTable t g r = r.table ≡ table_of t g

-- what is said of a lawful grouping, with the text of a certificate or without one, and the grouping's table
abbrev pub IsReported : Form → Tabled → Grouping → ℕ → Option (List ℕ) → Reported → Type 0
IsReported form t g budget text r = IsSaidOf form t g budget text r.answer × HasTable t g r

-- what is reported of a lawful grouping, or the fault of a grouping that isn't lawful
abbrev pub IsJudgeReport : Form → Tabled → Grouping → ℕ → Option (List ℕ) → Result Reported GroupingFault → Type 0
IsJudgeReport form t g budget text (Ok r) = Lawful (problem_of t.problem) g × IsReported form t g budget text r
IsJudgeReport form t g budget text (Err fault) = IsFault (problem_of t.problem) g fault

-- the step that judges a grouping
abbrev pub judge_step : Form → Tabled → Grouping → ℕ → Option (List ℕ) → Steps Reported
judge_step form t g budget text =
    call_step (λ fault. line_in form (verdict_answer fault)) (IsJudgeReport form t g budget text)

-- `judge`: the problem is built before the grouping is loaded and read, and then the certificate is loaded, where one
-- is named
abbrev pub judge_steps : Option Files → JudgeWords → Steps Reported
judge_steps files words =
    tabled_problem_in files words.problem (reads_names words.problem.common words.table)
    >>= λ t. grouping_of files words.grouping.now >>= λ g. certificate_text_of files words.certificate
    >>= judge_step words.problem.common.form t g words.budget

-- `judge` ends: at a fault that it met before anything was stored, or with its table stored and its answer, unless the
-- table was refused
abbrev pub JudgeEnds : Option Files → JudgeWords → History → History → List NamedFile → Answered → Type 0
JudgeEnds files words = EndsStoring (judge_steps files words) (λ r. named_file words.table r.table) (λ r. r.answer)

-- the exit status of an audit: 0 where nothing is found, else 1
abbrev pub findings_status : List Finding → ℕ
findings_status [] = 0
findings_status (f ∷ fs) = 1

-- the findings, with their status
abbrev pub findings_answer : Form → List Finding → Answered
findings_answer form list = record { text = findings_in form list; status = findings_status list }

-- what `audit` says, and the text of the table of the districts
pub record Audited : Type 0 where
  pub answer : Answered
  pub districts : Option (List ℕ)

-- the text is the table of the districts that assignments give to a plan
pub record IsDistrictsTable (v : ProblemValue) (g : Grouping) (blocks : List Block) (lines : List Assignment)
    (text : List ℕ) : Type 0 where
  pub list : List District
  pub are : AreDistricts (plan_of v g blocks lines) list
  pub table : IsDistrictsText (problem_of v) list text

-- there is a table of the districts exactly if it is asked for
abbrev pub IsTableIfAsked : Bool → ProblemValue → Grouping → List Block → List Assignment → Option (List ℕ) → Type 0
IsTableIfAsked false v g blocks lines table = table ≡ None
IsTableIfAsked true v g blocks lines table =
    (text : List ℕ) × (table ≡ Some text) × IsDistrictsTable v g blocks lines text

-- The answer shows all findings of blocks and assignments against a grouping. The table of the districts is beside it
-- if it is asked for.
pub record IsAudited (form : Form) (asked : Bool) (v : ProblemValue) (g : Grouping) (blocks : List Block)
    (lines : List Assignment) (s : Audited) : Type 0 where
  pub findings : List Finding
  pub are : AreFindings v g blocks lines findings
  pub said : s.answer ≡ findings_answer form findings
  pub districts : IsTableIfAsked asked v g blocks lines s.districts

-- the step that audits the assignments
abbrev pub audit_step : Form → Bool → ProblemValue → Grouping → List Block → List Assignment → Steps Audited
audit_step form asked v g blocks lines = value_step (IsAudited form asked v g blocks lines)

-- `audit`: the problem is built, then the census blocks are read, then the grouping, then the assignments
abbrev pub audit_steps : Option Files → AuditWords → Steps Audited
audit_steps files words =
    problem_steps files words.problem >>= λ v. blocks_of files words.census words.problem.common.state
    >>= λ blocks. grouping_of files words.grouping.now >>= λ g. plan_assignments files words.assignments.now
    >>= audit_step words.problem.common.form (is_some words.districts) v g blocks

-- `audit` ends: at a fault that it met before anything was stored, or with the table of the districts stored and its
-- answer, unless the table was refused
abbrev pub AuditEnds : Option Files → AuditWords → History → History → List NamedFile → Answered → Type 0
AuditEnds files words =
    EndsStoring (audit_steps files words) (λ s. named_file words.districts s.districts) (λ s. s.answer)
