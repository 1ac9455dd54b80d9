use Rattle.std.proofs.Common.{◌≡◌, ◌++◌, drop}
use Rattle.list_report.specs.Alternatives.{sets_inside}
use Rattle.list_report.proofs.alternatives.inside.Given as goal

abbrev pub invariant-loop-set : goal.invariant-loop-set
invariant-loop-set l = l.found.items ++ sets_inside l.counties (drop l.set-index l.sets) ≡ sets_inside l.counties l.sets
