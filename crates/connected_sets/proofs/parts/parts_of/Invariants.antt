use Rattle.std.proofs.Common.{◌≡◌, ◌+◌, ◌≤◌, ℕ, true, map, length, All}
use Rattle.place_sets.specs.PlaceSets.{places_of}
use Rattle.connected_sets.specs.Graphs.{problem_at}
use Rattle.connected_sets.proofs.PartLists.{IsParted}
use Rattle.connected_sets.proofs.parts.parts_of.Given as goal

abbrev pub invariant-loop-place : goal.invariant-loop-place
invariant-loop-place g l = record {
  parted : IsParted (problem_at l.graph.ordered.now) (g.C.CountySet.test l.region) (g.C.CountySet.test l.rest) (map (λ s. places_of (length l.graph.ordered.now.order) (g.C.CountySet.test s)) l.parts.items);
  inside : All (λ s. (x : ℕ) → g.C.CountySet.test s x ≡ true → g.C.CountySet.test l.region x ≡ true) l.parts.items;
  few : length l.parts.items + length (places_of (length l.graph.ordered.now.order) (g.C.CountySet.test l.rest)) ≤ length l.graph.ordered.now.order;
}

abbrev pub decreases-loop-place : goal.decreases-loop-place
decreases-loop-place g l = length (places_of (length l.graph.ordered.now.order) (g.C.CountySet.test l.rest))
