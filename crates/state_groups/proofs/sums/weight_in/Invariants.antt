use Rattle.std.proofs.Common.{◌≡◌, ◌-◌, ◌*◌, ◌≤◌, length, get_or}
use Rattle.place_sets.specs.Lists.{sum_by}
use Rattle.place_sets.specs.PlaceSets.{places_of}
use Rattle.state_groups.proofs.sums.weight_in.Given as goal

abbrev pub invariant-loop-place : goal.invariant-loop-place
invariant-loop-place g l = record {
  sum : l.weight ≡ sum_by (λ i. get_or l.weights i 0) (places_of l.from (g.C.CountySet.test l.set));
  within : l.from ≤ length l.weights;
  small : l.weight ≤ l.from * 4294967295;
}

abbrev pub decreases-loop-place : goal.decreases-loop-place
decreases-loop-place g l = length l.weights - l.from
