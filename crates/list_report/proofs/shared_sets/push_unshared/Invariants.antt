use Rattle.std.proofs.Common.{◌≡◌, ◌++◌, not, filter, drop}
use Rattle.list_report.specs.SharedSets.{has_set}
use Rattle.list_report.proofs.shared_sets.push_unshared.Given as goal

abbrev pub invariant-loop-set : goal.invariant-loop-set
invariant-loop-set l = l.out.items ++ filter (λ s. not (has_set l.shared s)) (drop l.set-index l.sets) ≡ l.fn.out.items ++ filter (λ s. not (has_set l.shared s)) l.sets
