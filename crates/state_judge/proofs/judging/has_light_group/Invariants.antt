use Rattle.std.proofs.Common.{ℕ, ◌<◌, ◌≤◌, length, get_or}
use Rattle.grouping_laws.specs.Sets.{sum_by}
use Rattle.place_sets.specs.PlaceSets.{places_of}
use Rattle.connected_sets.specs.Graphs.{graph_places, place_problem}
use Rattle.certificate_laws.specs.Fitting.{IsKept}
use Rattle.state_groups.specs.StateValue.{state_of}
use Rattle.state_judge.proofs.judging.has_light_group.Given as goal

abbrev pub invariant-loop-group : goal.invariant-loop-group
invariant-loop-group g l = (k : ℕ) (d : g.row.C.Denot) → k < l.group-index
    → IsKept l.format (place_problem l.graph) (state_of g.C.CountySet.test l.state) (places_of (graph_places l.graph) (g.C.CountySet.test (get_or l.groups k d)))
    → l.quota ≤ sum_by (λ i. get_or l.table i 0) (places_of (length l.table) (g.C.CountySet.test (get_or l.groups k d)))
