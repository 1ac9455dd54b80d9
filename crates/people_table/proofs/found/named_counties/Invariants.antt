use Rattle.std.proofs.Common.{◌≡◌, ◌++◌, map, drop}
use Rattle.pl94_counties.specs.CountyNames.{county_name}
use Rattle.people_table.proofs.found.named_counties.Given as goal

abbrev pub invariant-loop-county : goal.invariant-loop-county
invariant-loop-county l = map county_name l.named.items ++ drop l.county-index l.found ≡ l.found
