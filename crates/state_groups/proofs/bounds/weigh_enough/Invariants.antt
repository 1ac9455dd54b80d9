use Rattle.std.proofs.Common.{ℕ, ◌<◌, ◌≤◌, length, get_or}
use Rattle.place_sets.specs.Lists.{sum_by}
use Rattle.place_sets.specs.PlaceSets.{places_of}
use Rattle.state_groups.proofs.bounds.weigh_enough.Given as goal

abbrev pub invariant-loop-group : goal.invariant-loop-group
invariant-loop-group g l = (k : ℕ) (d : g.row.C.Denot) → k < l.group-index → l.quota ≤ sum_by (λ i. get_or l.weights i 0) (places_of (length l.weights) (g.C.CountySet.test (get_or l.groups k d)))
