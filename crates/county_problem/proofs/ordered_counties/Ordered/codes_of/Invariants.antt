use Rattle.std.proofs.Common.{◌≡◌, ◌≤◌, All}
use Rattle.place_sets.specs.PlaceSets.{places_of}
use Rattle.grouping_laws.specs.Places.{codes_at}
use Rattle.county_problem.proofs.ordered_counties.Ordered.codes_of.Given as goal

abbrev pub invariant-loop-place : goal.invariant-loop-place
invariant-loop-place g l = record {
  value : l.codes.items ≡ codes_at l.self.order (places_of l.place (g.C.CountySet.test l.set));
  small : All (λ c. c ≤ 99999) l.codes.items;
}
