use Rattle.std.proofs.Common.{◌≡◌, ◌++◌, drop, map}
use Rattle.pl94_counties.specs.CountyNames.{county_name}
use Rattle.grouping_table.specs.GroupingsTable.{grouping_lines}
use Rattle.grouping_table.proofs.groupings.push_counties.Given as goal

abbrev pub invariant-loop-county : goal.invariant-loop-county
invariant-loop-county l = l.out.items ++ grouping_lines l.sets l.number (map county_name (drop l.county-index l.listed)) ≡ l.fn.out.items ++ grouping_lines l.sets l.number (map county_name l.listed)
