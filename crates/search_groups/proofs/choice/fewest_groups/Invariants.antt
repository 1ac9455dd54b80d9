use Rattle.std.proofs.Common.{◌≡◌, true, ◌-◌}
use Rattle.search_groups.proofs.choice.fewest_groups.Given as goal

abbrev pub invariant-loop-place : goal.invariant-loop-place
invariant-loop-place g l = g.C.CountySet.test l.set l.best ≡ true

abbrev pub decreases-loop-place : goal.decreases-loop-place
decreases-loop-place g l = g.C.CountySet.PLACES - l.from
