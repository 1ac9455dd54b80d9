use Rattle.std.proofs.Common.{length, refl}
use Rattle.std.proofs.lemmas.Bool.{eq-eqb}
use Rattle.connected_laws.specs.Growing.{only}
use Rattle.connected_sets.proofs.PartLists.{parted_fewer}
use Rattle.state_groups.proofs.stranding.reaches_enough.Goals as goal

pub loop-next-smaller : goal.loop-next-smaller
loop-next-smaller g c =
    let test = g.C.CountySet.test in
    let next = c.in-Some.next in
    let is = c.loop-next.invariant.front next c.in-Some.ensures.least.1 in
    parted_fewer (length c.args.graph.now.ordered.now.order) next (test c.loop-next.rest) (only next) (test c.without-rest-in-Some.result) (c.loop-next.invariant.below next is) is (eq-eqb next next refl) c.without-rest-in-Some.ensures.places
