use Rattle.std.proofs.Common.{◌≡◌, ◌++◌, drop}
use Rattle.list_report.specs.SharedSets.{unshared_sets}
use Rattle.list_report.proofs.shared_sets.not_shared.Given as goal

abbrev pub invariant-loop-sets : goal.invariant-loop-sets
invariant-loop-sets l = l.unshared.items ++ unshared_sets l.shared (drop l.sets-index l.listed) ≡ unshared_sets l.shared l.listed
