use Rattle.std.proofs.Common.{length}
use Rattle.place_sets.specs.PlaceSets.{places_of}
use Rattle.connected_sets.specs.Graphs.{problem_at}
use Rattle.state_groups.specs.StateValue.{state_of}
use Rattle.state_groups.proofs.StuckLemmas.{IsPassed}
use Rattle.state_groups.proofs.stuck_parts.has_stuck_part.Given as goal

abbrev pub invariant-loop-place : goal.invariant-loop-place
invariant-loop-place g l = IsPassed (problem_at l.graph.ordered.now) (state_of (g.C.CountySet.test) l.state) (g.C.CountySet.test l.fn.region) (g.C.CountySet.test l.free) (g.C.CountySet.test l.rest)

abbrev pub decreases-loop-place : goal.decreases-loop-place
decreases-loop-place g l = length (places_of (length l.graph.ordered.now.order) (g.C.CountySet.test l.rest))
