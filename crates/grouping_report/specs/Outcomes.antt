-- What is reported of a problem.
use Rattle.std.specs.Prelude.{◌≡◌, ℕ, ◌++◌, List, Some, None, codes}
use Rattle.county_problem.specs.ProblemValue.{ProblemValue, problem_of}
use Rattle.grouping_laws.specs.Grouping as grouping
use Rattle.grouping_report.specs.declared.outcome.Outcome.{Outcome}
use Rattle.grouping_report.specs.declared.outcome.Outcome.TheVariants.{Lawful, Best, Impossible, Open}
use Rattle.grouping_report.specs.Report.{head_lines, answer_line, open_words, report_text}

-- the grouping that is reported, where there is one, is lawful
abbrev pub NamesLawful : ProblemValue → Outcome → Type 0
NamesLawful v (Lawful g) = grouping.Lawful (problem_of v) g.groups.items
NamesLawful v (Best g) = grouping.Lawful (problem_of v) g.groups.items
NamesLawful v Impossible = Unit {0}
NamesLawful v (Open None steps) = Unit {0}
NamesLawful v (Open (Some g) steps) = grouping.Lawful (problem_of v) g.groups.items

-- the report of an outcome
abbrev pub outcome_text : ProblemValue → Outcome → List ℕ
outcome_text v (Lawful g) = report_text v (codes "lawful") g.groups.items
outcome_text v (Best g) = report_text v (codes "best") g.groups.items
outcome_text v Impossible = head_lines v ++ answer_line (codes "impossible")
outcome_text v (Open None steps) = (head_lines v ++ answer_line (open_words steps)) ++ codes "grouping none\n"
outcome_text v (Open (Some g) steps) = report_text v (open_words steps) g.groups.items

-- two outcomes are of one kind, with the same groups and the same steps
abbrev pub SameOutcome : Outcome → Outcome → Type 0
SameOutcome (Lawful g) (Lawful h) = g.groups.items ≡ h.groups.items
SameOutcome (Best g) (Best h) = g.groups.items ≡ h.groups.items
SameOutcome Impossible Impossible = Unit {0}
SameOutcome (Open None steps) (Open None others) = steps ≡ others
SameOutcome (Open (Some g) steps) (Open (Some h) others) = (g.groups.items ≡ h.groups.items) × (steps ≡ others)
SameOutcome one other = ⊥
