use Rattle.std.proofs.Common.{◌≡◌, ◌≤◌, ◌*◌, filter, take, nat_le}
use Rattle.grouping_laws.specs.Sets.{sum_by}
use Rattle.state_judge.specs.Weights.{county_weight}
use Rattle.list_groupings.proofs.position.Position.open_weight.Given as goal

abbrev pub invariant-loop-waiting : goal.invariant-loop-waiting
invariant-loop-waiting l = record {
  sum : l.weight ≡ sum_by (λ w. county_weight l.weights w.code) (filter (λ w. nat_le w.least l.size) (take l.waiting-index l.waiting-items));
  few : l.weight ≤ 4294967295 * l.waiting-index;
}
