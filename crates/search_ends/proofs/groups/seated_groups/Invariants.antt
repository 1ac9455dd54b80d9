use Rattle.std.proofs.Common.{◌≡◌, ◌++◌, drop, All}
use Rattle.grouping_laws.specs.Ranges.{seated}
use Rattle.state_groups.specs.PlacedValues.{codes_of_sets}
use Rattle.search_ends.specs.FinishedStates.{HasNumbers}
use Rattle.search_ends.proofs.groups.seated_groups.Given as goal

abbrev pub invariant-loop-i : goal.invariant-loop-i
invariant-loop-i g l = record {
  groups : l.groups.items ++ seated (codes_of_sets l.ordered.order g.C.CountySet.test (drop l.i l.sets)) (drop l.i l.seats) ≡ seated (codes_of_sets l.ordered.order g.C.CountySet.test l.sets) l.seats;
  numbers : All HasNumbers l.groups.items;
}
