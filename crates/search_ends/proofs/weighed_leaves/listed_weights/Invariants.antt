use Rattle.std.proofs.Common.{◌≡◌, ◌++◌, drop, All}
use Rattle.county_codes.specs.Counties.{codes_of}
use Rattle.certificate_lines.specs.Fitting.{FitsWeight}
use Rattle.search_ends.specs.PlacedWeights.{placed_weight, weights_above}
use Rattle.search_ends.proofs.weighed_leaves.listed_weights.Given as goal

abbrev pub invariant-loop-county : goal.invariant-loop-county
invariant-loop-county l = record {
  same : l.weights.items ++ weights_above (placed_weight l.ordered.order l.table) (codes_of (drop l.county-index l.counties)) ≡ weights_above (placed_weight l.ordered.order l.table) (codes_of l.counties);
  each : All FitsWeight l.weights.items;
}
