use Rattle.std.proofs.Common.{◌≡◌, ◌+◌, ◌≤◌, ◌==◌, drop, length}
use Rattle.place_sets.specs.PlaceSets.{places_of}
use Rattle.grouping_laws.specs.Sets.{indicator, sum_by}
use Rattle.state_judge.proofs.bound.closed_of_size.Given as goal

abbrev pub invariant-loop-group : goal.invariant-loop-group
invariant-loop-group g l = record {
  same : l.count + sum_by (λ s. indicator (length (places_of (length l.ordered.order) (g.C.CountySet.test s)) == l.size)) (drop l.group-index l.state.closed.items) ≡ sum_by (λ s. indicator (length (places_of (length l.ordered.order) (g.C.CountySet.test s)) == l.size)) l.state.closed.items;
  few : l.count ≤ l.group-index;
}
