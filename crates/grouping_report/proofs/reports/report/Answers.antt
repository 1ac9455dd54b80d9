use Rattle.grouping_report.proofs.reports.report.Goals as goal

pub full_report-requires : goal.full_report-requires
full_report-requires c = rw c.in-Lawful.is at c.requires

pub returns-in-Lawful : goal.returns-in-Lawful
returns-in-Lawful c = rw c.in-Lawful.is c.full_report.ensures

pub full_report-requires-in-Best : goal.full_report-requires-in-Best
full_report-requires-in-Best c = rw c.in-Best.is at c.requires

pub returns-in-Best : goal.returns-in-Best
returns-in-Best c = rw c.in-Best.is c.full_report-in-Best.ensures

pub returns-in-Impossible : goal.returns-in-Impossible
returns-in-Impossible c = rw c.in-Impossible.is c.top_report.ensures
