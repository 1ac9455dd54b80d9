use Rattle.std.proofs.Common.{◌≡◌, ◌≤◌, ◌++◌, drop, length}
use Rattle.place_sets.specs.PlaceSets.{places_of}
use Rattle.grouping_laws.specs.Places.{codes_at}
use Rattle.state_judge.proofs.branch.has_codes.Given as goal

abbrev pub invariant-loop-code : goal.invariant-loop-code
invariant-loop-code g l = record {
  same : codes_at l.ordered.order (places_of l.from (g.C.CountySet.test l.set)) ++ drop l.code-index l.codes ≡ l.codes;
  within : l.from ≤ length l.ordered.order;
}
