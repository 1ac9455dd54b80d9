use Rattle.std.proofs.Common.{◌≡◌, ◌≤◌, ◌++◌, drop}
use Rattle.county_problem.specs.Building.{people_in}
use Rattle.json_report.specs.SizeObject.{county_objects}
use Rattle.json_report.proofs.size.push_counties.Given as goal

abbrev pub invariant-loop-county : goal.invariant-loop-county
invariant-loop-county l = record {
  before : l.out.before ≡ l.fn.out.before;
  so_far : l.out.tokens ++ county_objects l.problem (drop l.county-index l.counties)
      ≡ l.fn.out.tokens ++ county_objects l.problem l.counties;
  whole : people_in (drop l.county-index l.counties) ≤ l.problem.total_people;
}
