use Rattle.std.proofs.Common.{◌≡◌, ◌≤◌, ◌+◌, ◌*◌, drop, map}
use Rattle.grouping_table.specs.LabelledSets.{people_of_set}
use Rattle.grouping_table.specs.Table.{unnamed_counties}
use Rattle.pl94_counties.specs.CountyNames.{county_name}
use Rattle.grouping_table.proofs.sets.people_inside.Given as goal

abbrev pub invariant-loop-named : goal.invariant-loop-named
invariant-loop-named l = record {
  so_far : l.people + people_of_set (unnamed_counties (map county_name (drop l.named-index l.listed))) l.codes ≡ people_of_set (unnamed_counties (map county_name l.listed)) l.codes;
  small : l.people ≤ 4294967295 * l.named-index;
}
