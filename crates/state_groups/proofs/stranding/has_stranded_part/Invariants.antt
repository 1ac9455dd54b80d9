use Rattle.std.proofs.Common.{◌≡◌, ℕ, true, length}
use Rattle.place_sets.specs.PlaceSets.{places_of}
use Rattle.state_groups.proofs.stranding.has_stranded_part.Given as goal

abbrev pub invariant-loop-place : goal.invariant-loop-place
invariant-loop-place g l = (x : ℕ) → g.C.CountySet.test l.rest x ≡ true → g.C.CountySet.test l.left x ≡ true

abbrev pub decreases-loop-place : goal.decreases-loop-place
decreases-loop-place g l = length (places_of (length l.graph.ordered.now.order) (g.C.CountySet.test l.rest))
