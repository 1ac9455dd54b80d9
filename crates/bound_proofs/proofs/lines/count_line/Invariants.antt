use Rattle.std.proofs.Common.{◌≡◌, ◌++◌, map, filter, drop}
use Rattle.county_codes.specs.Counties.{codes_of}
use Rattle.certificate_data.specs.TreeValue.{weight_of}
use Rattle.bound_proofs.specs.CountLeaves.{has_county}
use Rattle.bound_proofs.proofs.CountWeights.{one_for}
use Rattle.bound_proofs.proofs.lines.count_line.Given as goal

abbrev pub invariant-loop-county : goal.invariant-loop-county
invariant-loop-county g l =
    map weight_of l.weights.items ++ map one_for (filter (has_county l.ordered.order g.C.CountySet.test l.counted) (codes_of (drop l.county-index l.counties)))
    ≡ map one_for (filter (has_county l.ordered.order g.C.CountySet.test l.counted) (codes_of l.counties))
