use Rattle.std.proofs.Common.{◌≡◌, ◌+◌, ◌++◌, drop, map}
use Rattle.grouping_table.specs.LabelledSets.{numbered_groups}
use Rattle.grouping_table.specs.Table.{unnamed_counties}
use Rattle.pl94_counties.specs.CountyNames.{county_name}
use Rattle.grouping_table.proofs.sets.push_groups.Given as goal

abbrev pub invariant-loop-i : goal.invariant-loop-i
invariant-loop-i l = l.sets.items ++ numbered_groups (unnamed_counties (map county_name l.listed)) (l.i + 1) (drop l.i l.groups) ≡ l.fn.sets.items ++ numbered_groups (unnamed_counties (map county_name l.listed)) 1 l.groups
