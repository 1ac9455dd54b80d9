use Rattle.std.proofs.Common.{◌≡◌, ◌≤◌, ◌++◌, drop}
use Rattle.county_problem.specs.Building.{people_in}
use Rattle.grouping_report.specs.SizeTable.{lines_text}
use Rattle.grouping_report.proofs.table.push_counties.Given as goal

abbrev pub invariant-loop-county : goal.invariant-loop-county
invariant-loop-county l = record {
  so_far : l.out.items ++ lines_text l.problem (drop l.county-index l.counties) ≡ l.fn.out.items ++ lines_text l.problem l.counties;
  whole : people_in (drop l.county-index l.counties) ≤ l.problem.total_people;
}
