use Rattle.std.proofs.Common.{◌≡◌, ℕ, ◌<◌, get_or, length}
use Rattle.state_groups.specs.PlacedValues.{codes_of_set}
use Rattle.state_judge.proofs.branch.is_listed.Given as goal

abbrev pub invariant-loop-set : goal.invariant-loop-set
invariant-loop-set g l = (k : ℕ) (d : g.row.C.Denot) → k < l.set-index → k < length l.sets → codes_of_set l.ordered.order g.C.CountySet.test (get_or l.sets k d) ≡ l.codes → ⊥
