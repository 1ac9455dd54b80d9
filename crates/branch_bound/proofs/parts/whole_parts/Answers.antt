use Rattle.std.proofs.Common.{◌++◌, ap, ◌∙◌, arith}
use Rattle.certificate_data.specs.TreeValue.{list_of_takes}
use Rattle.partial_trees.specs.PartialValue.{list_of_begun}
use Rattle.branch_bound.specs.Parts.{whole_takes}
use Rattle.branch_bound.proofs.OpenParts.{part_more, all_yielded}
use Rattle.branch_bound.proofs.parts.whole_parts.Goals as goal

pub loop-take-init : goal.loop-take-init
loop-take-init c = record { can = tt; finite = tt; takes = λ more. ap (λ z. list_of_begun (z ++ more)) c.new-parts.ensures.items }

pub loop-take-preserved : goal.loop-take-preserved
loop-take-preserved c = record {
  can = tt;
  finite = tt;
  takes = part_more c.loop-take.yielded c.in-Some.take c.loop-take.parts.items c.push.new.self.items c.whole_part-tree.result c.whole_part-tree.ensures c.in_ok-push.ensures.items c.loop-take.invariant.takes;
}

pub returns : goal.returns
returns c = λ more.
    let gives = c.into_iter-take-iterator.ensures.into_iter_gives in
    c.loop-take.invariant.takes more ∙ ap (λ z. whole_takes (list_of_takes z) (list_of_begun more)) (all_yielded c.into_iter-take-iterator.result c.args.takes.items c.loop-take.yielded c.loop-take.take-iterator c.next.new.self c.next.result gives.0 (omega (arith, gives.1)) c.loop-take.yielded_by c.in-None.is c.next.ensures.steps)
