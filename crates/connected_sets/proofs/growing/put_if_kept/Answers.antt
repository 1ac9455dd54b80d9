use Rattle.std.proofs.Common.{length, refl, ◌∙◌}
use Rattle.county_problem.specs.OrderedValue.{problem_at}
use Rattle.connected_laws.proofs.Growing.{leaf_left}
use Rattle.connected_laws.proofs.Listing.{listed_kept, listed_none}
use Rattle.connected_sets.proofs.growing.put_if_kept.Goals as goal

pub returns-in_ok-push-clause-listed : goal.returns-in_ok-push-clause-listed
returns-in_ok-push-clause-listed g c =
    let test = g.C.CountySet.test in
    let p = problem_at c.args.input.now.graph.now.ordered.now in
    let n = length c.args.input.now.graph.now.ordered.now.order in
    let growth = c.args.growth in
    λ keep d.
    listed_kept g.row.C.Denot test p n c.args.input.now.limit keep growth.set (test growth.free) c.args.groups.now.items c.push.new.self.items c.requires.growth.growth c.requires.whole (c.in_ok-is_kept.ensures.kept keep d ∙ c.if-branch.true) c.in_ok-push.ensures.items

pub returns-else-branch-clause-listed : goal.returns-else-branch-clause-listed
returns-else-branch-clause-listed g c =
    let test = g.C.CountySet.test in
    let p = problem_at c.args.input.now.graph.now.ordered.now in
    let n = length c.args.input.now.graph.now.ordered.now.order in
    let growth = c.args.growth in
    λ keep d.
    listed_none g.row.C.Denot test p n c.args.input.now.limit keep (test growth.set) (test growth.free) c.args.groups.now.items c.args.groups.now.items
    (leaf_left p n c.args.input.now.limit keep (test growth.set) (test growth.free) c.requires.growth.growth c.requires.whole (c.in_ok-is_kept.ensures.kept keep d ∙ c.if-branch.false)) refl
