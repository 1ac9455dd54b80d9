use Rattle.connected_groups.specs.Search.{problem_at, HasMost, later}
use Rattle.connected_groups.proofs.start_sets.most_after.Given as goal

abbrev pub invariant-loop-other : goal.invariant-loop-other
invariant-loop-other l = HasMost (problem_at l.ordered) (later l.other l.place) l.most
