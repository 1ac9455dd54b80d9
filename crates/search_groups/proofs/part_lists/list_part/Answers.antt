use Rattle.std.proofs.Common.{◌≡◌, length, sym, ap, ◌∙◌, subst}
use mathlib.Core.Path.{fun_ext}
use Rattle.county_problem.specs.OrderedValue.{problem_at}
use Rattle.connected_laws.specs.Listing.{lists_of}
use Rattle.certificate_laws.specs.Groups.{AreGroupsOf}
use Rattle.search_groups.specs.PartGroups.{alone}
use Rattle.search_groups.proofs.part_lists.list_part.Goals as goal

pub returns-clause-list : goal.returns-clause-list
returns-clause-list g c =
    let test = g.C.CountySet.test in
    let p = problem_at c.args.graph.now.ordered.now in
    let n = length c.args.graph.now.ordered.now.order in
    let size = c.args.size in
    let groups = c.in_ok-groups.groups in
    let same : (test c.in_ok-copy.field-0) ≡ (test c.args.part.now) = fun_ext c.in_ok-copy.ensures.places in
    record {
      groups = λ round order format. subst (λ s. AreGroupsOf p round s size (lists_of n test groups.items)) (c.in_ok-state.ensures.value ∙ ap (λ z. alone z size) (sym same)) (c.in_ok-groups.ensures.groups round order format);
      below = c.in_ok-groups.ensures.below;
    }
