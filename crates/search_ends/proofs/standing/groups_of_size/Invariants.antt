use Rattle.std.proofs.Common.{◌≡◌, ◌+◌, ◌≤◌, drop}
use Rattle.grouping_laws.specs.Grouping.{counts, sets_of}
use Rattle.search_ends.proofs.standing.groups_of_size.Given as goal

abbrev pub invariant-loop-group : goal.invariant-loop-group
invariant-loop-group l = record {
  same : l.count + counts (sets_of (drop l.group-index l.grouping.groups.items)) l.size ≡ counts (sets_of l.grouping.groups.items) l.size;
  few : l.count ≤ l.group-index;
}
