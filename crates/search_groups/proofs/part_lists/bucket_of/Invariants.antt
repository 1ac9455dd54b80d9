use Rattle.std.proofs.Common.{◌-◌, ◌≤◌, ◌<◌}
use Rattle.search_groups.proofs.part_lists.bucket_of.Given as goal

abbrev pub invariant-loop-place : goal.invariant-loop-place
invariant-loop-place g l = record {
  hash : l.hash < 1021;
  within : l.from ≤ g.C.CountySet.PLACES;
}

abbrev pub decreases-loop-place : goal.decreases-loop-place
decreases-loop-place g l = g.C.CountySet.PLACES - l.from
