use Rattle.std.proofs.Common.{◌≡◌, ℕ, true, ◌<◌, length}
use Rattle.place_sets.specs.PlaceSets.{places_of}
use Rattle.state_groups.proofs.stranding.reaches_enough.Given as goal

abbrev pub invariant-loop-next : goal.invariant-loop-next
invariant-loop-next g l = record {
  below : (x : ℕ) → g.C.CountySet.test l.rest x ≡ true → x < length l.graph.ordered.now.order;
  front : (x : ℕ) → g.C.CountySet.test l.front x ≡ true → g.C.CountySet.test l.rest x ≡ true;
}

abbrev pub decreases-loop-next : goal.decreases-loop-next
decreases-loop-next g l = length (places_of (length l.graph.ordered.now.order) (g.C.CountySet.test l.rest))
