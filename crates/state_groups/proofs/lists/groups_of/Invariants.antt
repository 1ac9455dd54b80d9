use Rattle.std.proofs.Common.{◌≡◌, ℕ, ◌+◌, ◌≤◌, Bool, true, List, length}
use Rattle.place_sets.specs.PlaceSets.{places_of}
use Rattle.county_problem.specs.OrderedValue.{problem_at}
use Rattle.connected_laws.specs.Listing.{OneStepEach}
use Rattle.state_groups.specs.StateValue.{state_of}
use Rattle.state_groups.specs.Keeping.{Decides}
use Rattle.state_groups.proofs.Sizes.{Begun, IsOpen, IsFound}
use Rattle.state_groups.proofs.lists.groups_of.Given as goal

abbrev pub invariant-loop-place : goal.invariant-loop-place
invariant-loop-place g l = record {
  left : IsOpen (state_of (g.C.CountySet.test) l.state) l.size (g.C.CountySet.test l.region);
  found : (keep : List ℕ → Bool) → Decides l.format (problem_at l.graph.ordered.now) (length l.graph.ordered.now.order) l.size true (state_of (g.C.CountySet.test) l.state) keep
      → IsFound g.row.C.Denot (g.C.CountySet.test) (problem_at l.graph.ordered.now) (length l.graph.ordered.now.order) (state_of (g.C.CountySet.test) l.state) l.size (g.C.CountySet.test l.region) keep l.sets.items;
  stepped : OneStepEach (Begun (problem_at l.graph.ordered.now) (length l.graph.ordered.now.order) (state_of (g.C.CountySet.test) l.state) l.size (g.C.CountySet.test l.region)) l.fn.steps.used l.steps.used;
  counted : l.fn.steps.used + length l.sets.items ≤ l.steps.used;
  limit : l.steps.limit ≡ l.fn.steps.limit;
}

abbrev pub decreases-loop-place : goal.decreases-loop-place
decreases-loop-place g l = length (places_of (length l.graph.ordered.now.order) (g.C.CountySet.test l.region))
