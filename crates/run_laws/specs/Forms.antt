-- The forms of an answer: a text with the codes of the counties, a text with their names, or an object of JSON.
use Rattle.std.specs.Prelude.{◌≡◌, ◌⊎◌, ℕ, Bool, true, false, List, Option, Some, None, codes, nat_eq, nat_le, not, is_some}
use Rattle.std.specs.Prelude.{◌&&◌, ◌||◌}
use Rattle.std.specs.Cmp.Lexicographic.{pointwise}
use Rattle.std.specs.Borrow.{Bor}
use Rattle.county_problem.specs.ProblemValue.{ProblemValue}
use Rattle.grouping_laws.specs.Grouping.{Grouping}
use Rattle.pl94_counties.specs.CountyNames.{CountyName}
use Rattle.baf_auditor.specs.declared.finding.Finding.{Finding}
use Rattle.grouping_report.specs.declared.outcome.Outcome.{Outcome}
use Rattle.grouping_report.specs.Outcomes.{outcome_text}
use Rattle.grouping_report.specs.Report.{report_text}
use Rattle.grouping_report.specs.SizeTable.{size_text}
use Rattle.grouping_report.specs.FindingsText.{findings_text}
use Rattle.json_report.specs.ReportObject.{outcome_json, report_json}
use Rattle.json_report.specs.SizeObject.{size_json}
use Rattle.json_report.specs.FindingsObject.{findings_json}
use Rattle.json_report.specs.Message.{message_json}
use Rattle.named_text.specs.NamedText.{named_text}
use Rattle.cli_words.specs.declared.words.Form.{Form}
use Rattle.cli_words.specs.declared.words.Form.TheVariants.{Codes, Names, Object}
use Rattle.cli_words.specs.declared.words.CommonWords.{CommonWords}
use Rattle.cli_words.specs.declared.words.CommandWords.{CommandWords}
use Rattle.cli_words.specs.declared.words.CommandWords.TheVariants.{Size, Judge, Solve, Check, Audit, List as ListAll}
use Rattle.cli_words.specs.declared.words.CommandWords.TheVariants.{Share, Piece, Worker}
use Rattle.cli_answers.specs.Answer.{Answered, memory_answer}

-- a text with the names of the counties behind their codes, if the names were read
abbrev pub with_names : Option (List CountyName) → List ℕ → List ℕ
with_names None text = text
with_names (Some named) text = named_text named text

-- whether an answer of this form has the names of the counties
abbrev pub has_names : Form → Bool
has_names Codes = false
has_names Names = true
has_names Object = true

-- the report of an outcome
abbrev pub outcome_in : Form → ProblemValue → Option (List CountyName) → Outcome → List ℕ
outcome_in Codes v named outcome = outcome_text v outcome
outcome_in Names v named outcome = with_names named (outcome_text v outcome)
outcome_in Object v named outcome = outcome_json v named outcome

-- the report of an answer with its grouping
abbrev pub report_in : Form → ProblemValue → Option (List CountyName) → List ℕ → Grouping → List ℕ
report_in Codes v named answer g = report_text v answer g
report_in Names v named answer g = with_names named (report_text v answer g)
report_in Object v named answer g = report_json v named answer g

-- the size table, whose text has no names
abbrev pub size_in : Form → ProblemValue → Option (List CountyName) → List ℕ
size_in Codes v named = size_text v
size_in Names v named = size_text v
size_in Object v named = size_json v named

-- the findings of an audit, whose text has no names
abbrev pub findings_in : Form → List Finding → List ℕ
findings_in Codes list = findings_text list
findings_in Names list = findings_text list
findings_in Object list = findings_json list

-- a line that stands in place of a report: the line, or the object with the line as its message
abbrev pub line_in : Form → Answered → Answered
line_in Codes a = a
line_in Names a = a
line_in Object a = record { text = message_json a.text; status = a.status }

-- what was refused, with status 4 or 5, is a line; but `memory` is written as it is, since writing it needs no memory
abbrev pub is_refused_line : Answered → Bool
is_refused_line a = nat_le 4 a.status && not (pointwise nat_eq a.text (codes "memory\n"))

-- an answer as it is shown
abbrev pub shown_if : Form → Bool → Answered → Answered
shown_if Codes refused a = a
shown_if Names refused a = a
shown_if Object false a = a
shown_if Object true a = line_in Object a

abbrev pub shown_in : Form → Answered → Answered
shown_in form a = shown_if form (is_refused_line a) a

-- The answer is shown in its form. If the words ask for an object, a growth may be refused in composing it.
abbrev pub IsShown : Form → Answered → Answered → Type 0
IsShown form raw a = (a ≡ shown_in form raw) ⊎ ((form ≡ Object) × (a ≡ memory_answer))

-- whether the names of the counties are read: for a table, or for an answer that has them
abbrev pub reads_names : CommonWords → Option (Bor (List ℕ)) → Bool
reads_names words table = is_some table || has_names words.form

-- the form of a command's answer
abbrev pub form_of_answer : CommandWords → Form
form_of_answer (Size words) = words.form
form_of_answer (Judge words) = words.problem.common.form
form_of_answer (Solve words) = words.problem.common.form
form_of_answer (Check words) = words.check.problem.common.form
form_of_answer (Audit words) = words.problem.common.form
form_of_answer (ListAll words) = words.check.problem.common.form
form_of_answer (Share words) = Codes
form_of_answer (Piece words) = Codes
form_of_answer (Worker words) = Codes
