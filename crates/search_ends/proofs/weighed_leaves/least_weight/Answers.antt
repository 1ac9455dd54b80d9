use Rattle.std.proofs.Common.{◌≤◌, List, length, get_or, take_all, subst, arith, All}
use Rattle.grouping_laws.specs.Sets.{sum_by}
use Rattle.place_sets.specs.PlaceSets.{places_of}
use Rattle.search_ends.proofs.WeightSteps.{lesser_next}
use Rattle.search_ends.proofs.weighed_leaves.least_weight.Goals as goal

pub loop-group-preserved : goal.loop-group-preserved
loop-group-preserved g c =
    let table = c.args.table.now in
    let inv = c.loop-group.invariant in
    record {
      each = lesser_next (λ (s : g.row.C.Denot). sum_by (λ i. get_or table i 0) (places_of (length table) (g.C.CountySet.test s))) c.args.groups.now c.loop-group.group-index c.group-item.result c.loop-group.least c.min-least.result
          (omega (arith, c.min-least.ensures)) (omega (arith, c.min-least.ensures, c.weight_in.ensures)) c.loop-group-test.true c.group-item.is inv.each;
      small = omega (arith, c.min-least.ensures, inv.small);
    }

pub returns-clause-each : goal.returns-clause-each
returns-clause-each g c =
    let table = c.args.table.now in
    subst (λ (z : List g.row.C.Denot). All (λ s. c.loop-group.least ≤ sum_by (λ i. get_or table i 0) (places_of (length table) (g.C.CountySet.test s))) z) (take_all c.loop-group.group-index c.args.groups.now (omega (arith, c.loop-group-test.false))) c.loop-group.invariant.each
