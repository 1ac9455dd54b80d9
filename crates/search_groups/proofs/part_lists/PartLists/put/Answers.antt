use Rattle.std.proofs.Common.{◌≡◌, ◌++◌, length, sym, subst, ap, ◌∙◌}
use Rattle.std.proofs.lemmas.Bool.{false≢true}
use Rattle.county_problem.specs.OrderedValue.{problem_at}
use Rattle.connected_laws.specs.Listing.{AreBelow, lists_of}
use Rattle.search_groups.proofs.PartSteps.{put_list}
use Rattle.search_groups.proofs.part_lists.PartLists.put.Goals as goal

pub returns-clause-put : goal.returns-clause-put
returns-clause-put g c =
    let C = g.row.C.Denot in
    let test = g.C.CountySet.test in
    let n = length c.args.graph.now.ordered.now.order in
    let list = c.in_ok-list.list in
    let old = c.args.groups.now.items in
    let new = c.put_copies.new.groups.items in
    let same : c.put_kept.new.groups.items ≡ old = c.in_ok-put_kept.ensures.same (λ t. false≢true (sym c.if-branch.false ∙ t)) in
    let lent = c.deref.ensures.value in
    let copied = c.in_ok-put_copies.ensures in
    put_list C test (problem_at c.args.graph.now.ordered.now) n c.args.part.now c.args.size list old new c.in_ok-list.ensures.is_for c.in_ok-list.ensures.list
    (copied.lists n ∙ (ap (λ z. lists_of n test z ++ lists_of n test c.deref.result.now) same ∙ ap (λ z. lists_of n test old ++ lists_of n test z) lent))
    (λ low was. copied.below n (subst (AreBelow n test) (sym lent) low) (subst (AreBelow n test) (sym same) was))
