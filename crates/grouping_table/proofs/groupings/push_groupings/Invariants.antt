use Rattle.std.proofs.Common.{◌≡◌, ◌+◌, ◌++◌, drop, map}
use Rattle.pl94_counties.specs.CountyNames.{county_name}
use Rattle.grouping_table.specs.GroupingsTable.{groupings_lines}
use Rattle.grouping_table.proofs.groupings.push_groupings.Given as goal

abbrev pub invariant-loop-i : goal.invariant-loop-i
invariant-loop-i l = l.out.items ++ groupings_lines (map county_name l.listed) l.withdrawn (l.i + 1) (map (λ g. g.groups.items) (drop l.i l.groupings)) ≡ l.fn.out.items ++ groupings_lines (map county_name l.listed) l.withdrawn 1 (map (λ g. g.groups.items) l.groupings)
