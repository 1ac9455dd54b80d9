use Rattle.std.proofs.Common.{◌≡◌, ◌≤◌, take}
use Rattle.std.specs.List.{AllByRecursion}
use Rattle.county_problem.proofs.ordered_counties.Ordered.codes.Given as goal

abbrev pub invariant-loop-place : goal.invariant-loop-place
invariant-loop-place l = record {
  value : l.codes.items ≡ take l.place l.self.order;
  small : AllByRecursion (λ c. c ≤ 99999) l.codes.items;
}
