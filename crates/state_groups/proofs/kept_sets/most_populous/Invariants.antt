use Rattle.std.proofs.Common.{◌≡◌, true, ◌-◌, ◌≤◌, length}
use Rattle.state_groups.proofs.kept_sets.most_populous.Given as goal

abbrev pub invariant-loop-place : goal.invariant-loop-place
invariant-loop-place g l = record {
  there : g.C.CountySet.test l.set l.found ≡ true;
  within : l.from ≤ length l.ordered.order;
}

abbrev pub decreases-loop-place : goal.decreases-loop-place
decreases-loop-place g l = length l.ordered.order - l.from
