use Rattle.std.proofs.Common.{◌≡◌, ◌++◌, filter, drop}
use Rattle.std.specs.List.{list_all}
use Rattle.list_report.specs.SharedSets.{has_set}
use Rattle.list_report.proofs.shared_sets.kept_by_all.Given as goal

abbrev pub invariant-loop-set : goal.invariant-loop-set
invariant-loop-set l = l.shared.items ++ filter (λ s. list_all (λ g. has_set g s) l.listed) (drop l.set-index l.sets) ≡ filter (λ s. list_all (λ g. has_set g s) l.listed) l.sets
