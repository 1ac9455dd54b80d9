use Rattle.std.proofs.Common.{◌≡◌, ◌≤◌, take}
use Rattle.grouping_laws.specs.Grouping.{counts}
use Rattle.list_groupings.proofs.shortfall.groups_of_size.Given as goal

abbrev pub invariant-loop-group : goal.invariant-loop-group
invariant-loop-group l = record {
  sum : l.count ≡ counts (take l.group-index l.groups) l.size;
  few : l.count ≤ l.group-index;
}
