use Rattle.std.proofs.Common.{ap, ◌∙◌, arith}
use Rattle.partial_trees.specs.PartialValue.{list_onto}
use Rattle.branch_bound.specs.Parts.{whole_branches}
use Rattle.branch_bound.proofs.OpenParts.{line_more, all_yielded}
use Rattle.branch_bound.proofs.parts.whole_lines.Goals as goal

pub loop-branch-init : goal.loop-branch-init
loop-branch-init c = record { can = tt; finite = tt; lines = λ part. ap (λ z. list_onto z part) c.new-parts.ensures.items }

pub loop-branch-preserved : goal.loop-branch-preserved
loop-branch-preserved c = record {
  can = tt;
  finite = tt;
  lines = line_more c.loop-branch.yielded c.in-Some.branch c.loop-branch.parts.items c.push.new.self.items c.in_ok-takes.takes c.in_ok-takes.ensures c.in_ok-push.ensures.items c.loop-branch.invariant.lines;
}

pub returns : goal.returns
returns c = λ part.
    let gives = c.into_iter-branch-iterator.ensures.into_iter_gives in
    c.loop-branch.invariant.lines part ∙ ap (λ z. whole_branches z part) (all_yielded c.into_iter-branch-iterator.result c.args.branches.items c.loop-branch.yielded c.loop-branch.branch-iterator c.next.new.self c.next.result gives.0 (omega (arith, gives.1)) c.loop-branch.yielded_by c.in-None.is c.next.ensures.steps)
