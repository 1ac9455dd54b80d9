use Rattle.std.proofs.Common.{length, not, sym, ◌∙◌}
use Rattle.std.proofs.lemmas.Bool.{and_parts}
use Rattle.connected_sets.proofs.PartLists.{parted_fewer}
use Rattle.state_groups.proofs.stranding.has_stranded_part.Goals as goal

pub part_around-requires-clause-below : goal.part_around-requires-clause-below
part_around-requires-clause-below g c = λ x e. c.requires.below x (c.loop-place.invariant x e)

pub loop-place-smaller : goal.loop-place-smaller
loop-place-smaller g c =
    let test = g.C.CountySet.test in
    let place = c.in-Some.place in
    let is = c.in-Some.ensures.least.1 in
    parted_fewer (length c.args.graph.now.ordered.now.order) place (test c.loop-place.rest) (test c.in_ok-_together._together) (test c.in_ok-_together.others) (c.requires.below place (c.loop-place.invariant place is)) is c.in_ok-_together.ensures.around c.in_ok-_together.ensures.rest

pub loop-place-preserved : goal.loop-place-preserved
loop-place-preserved g c = λ x e.
    c.loop-place.invariant x (and_parts (g.C.CountySet.test c.loop-place.rest x) (not _) (sym (c.in_ok-_together.ensures.rest x) ∙ e)).0
