use Rattle.std.proofs.Common.{◌≤◌, length, get_or, take, All}
use Rattle.grouping_laws.specs.Sets.{sum_by}
use Rattle.place_sets.specs.PlaceSets.{places_of}
use Rattle.search_ends.proofs.weighed_leaves.least_weight.Given as goal

abbrev pub invariant-loop-group : goal.invariant-loop-group
invariant-loop-group g l = record {
  each : All (λ s. l.least ≤ sum_by (λ i. get_or l.table i 0) (places_of (length l.table) (g.C.CountySet.test s))) (take l.group-index l.groups);
  small : l.least ≤ 256000000;
}
