use Rattle.std.proofs.Common.{◌≡◌, ◌≤◌, filter, take, nat_le}
use Rattle.grouping_laws.specs.Sets.{sum_by}
use Rattle.list_groupings.proofs.position.Position.open_counties.Given as goal

abbrev pub invariant-loop-waiting : goal.invariant-loop-waiting
invariant-loop-waiting l = record {
  sum : l.count ≡ sum_by (λ w. 1) (filter (λ w. nat_le w.least l.size) (take l.waiting-index l.waiting-items));
  few : l.count ≤ l.waiting-index;
}
