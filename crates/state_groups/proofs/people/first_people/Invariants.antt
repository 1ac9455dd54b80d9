use Rattle.std.proofs.Common.{◌≡◌, ℕ, ◌+◌, ◌*◌, ◌≤◌, filter, take, drop}
use Rattle.grouping_laws.specs.Sets.{sum_by}
use Rattle.state_groups.proofs.people.first_people.Given as goal

abbrev pub invariant-loop-row : goal.invariant-loop-row
invariant-loop-row g l = record {
  sum : l.people + sum_by (λ (r : ℕ × ℕ). r.0) (take l.left (filter (λ (r : ℕ × ℕ). g.C.CountySet.test l.set r.1) (drop l.row-index l.places))) ≡ sum_by (λ (r : ℕ × ℕ). r.0) (take l.count (filter (λ (r : ℕ × ℕ). g.C.CountySet.test l.set r.1) l.places));
  small : l.people ≤ l.row-index * 4294967295;
}
