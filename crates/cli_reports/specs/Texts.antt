-- Values of the code as the definitions have them.
use Rattle.std.specs.Prelude.{map, option_map}
use Rattle.cli_answers.specs.Answers.{answer_of}
use Rattle.run_laws.specs.SolveSteps as steps
use Rattle.run_laws.specs.ListSteps as lists
use Rattle.run_laws.specs.JudgeSteps as audits
use Rattle.run_laws.specs.TableSteps as tables
use Rattle.pl94_counties.specs.CountyNames.{county_name}
use Rattle.cli_reports.specs.declared.solver_report.Solved.{Solved}
use Rattle.cli_reports.specs.declared.audit_report.Audited.{Audited}
use Rattle.list_groupings.specs.Walking.{sets_held}
use Rattle.cli_reports.specs.declared.listing_report.Asked.{Asked}
use Rattle.cli_reports.specs.declared.listing_report.Listed.{Listed}
use Rattle.cli_reports.specs.declared.table_runs.Tabled.{Tabled}
use Rattle.cli_reports.specs.declared.table_runs.Reported.{Reported}

-- a problem with the names of its counties, if they have names
abbrev pub tabled_of : Tabled → tables.Tabled
tabled_of t = record { problem = t.problem; named = option_map (λ v. map county_name v.items) t.named }

-- an answer and its table
abbrev pub reported_of : Reported → tables.Reported
reported_of r = record { answer = answer_of r.answer; table = option_map (λ t. t.items) r.table }

-- the answer and the texts of `solve`
abbrev pub solved_of : Solved → steps.Solved
solved_of s =
    record {
      answer = answer_of s.answer;
      certificate = option_map (λ t. t.items) s.certificate;
      grouping = option_map (λ t. t.items) s.grouping;
      table = option_map (λ t. t.items) s.table;
      events = option_map (λ t. t.items) s.events;
    }

-- what `list` is asked for
abbrev pub asked_of : Asked → lists.Asked
asked_of a = record { number = a.number; which = option_map sets_held a.which }

-- the answer and the texts of `list`
abbrev pub listed_of : Listed → lists.Listed
listed_of s =
    record {
      answer = answer_of s.answer;
      grouping = option_map (λ t. t.items) s.grouping;
      table = option_map (λ t. t.items) s.table;
    }

-- the answer and the table of `audit`
abbrev pub audited_of : Audited → audits.Audited
audited_of s = record { answer = answer_of s.answer; districts = option_map (λ t. t.items) s.districts }
