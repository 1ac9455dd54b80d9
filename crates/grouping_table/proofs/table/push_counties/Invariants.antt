use Rattle.std.proofs.Common.{◌≡◌, ◌++◌, drop, map}
use Rattle.pl94_counties.specs.CountyNames.{county_name}
use Rattle.grouping_table.specs.Table.{county_lines}
use Rattle.grouping_table.proofs.table.push_counties.Given as goal

abbrev pub invariant-loop-county : goal.invariant-loop-county
invariant-loop-county l = l.out.items ++ county_lines l.sets (map county_name (drop l.county-index l.listed)) ≡ l.fn.out.items ++ county_lines l.sets (map county_name l.listed)
