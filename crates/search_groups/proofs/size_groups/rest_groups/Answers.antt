use Rattle.std.proofs.Common.{◌≡◌, ℕ, ◌<◌, true, length, sym, ap, subst, arith}
use Rattle.place_sets.proofs.Sums.{digit_one}
use Rattle.grouping_laws.specs.Sets.{count_in}
use Rattle.grouping_laws.specs.Parts.{AreParts}
use Rattle.county_problem.specs.OrderedValue.{problem_at}
use Rattle.connected_laws.specs.Listing.{AreBelow, lists_of}
use Rattle.connected_laws.proofs.Keys.{all_moved}
use Rattle.search_groups.specs.PartLists.{ArePartGroups}
use Rattle.search_groups.proofs.PartGroups.{found_groups, parts_below}
use Rattle.search_groups.proofs.size_groups.rest_groups.Goals as goal

pub part_groups-requires-clause-below : goal.part_groups-requires-clause-below
part_groups-requires-clause-below g c =
    let C = g.row.C.Denot in
    let test = g.C.CountySet.test in
    let n = length c.args.graph.now.ordered.now.order in
    subst (AreBelow n test) (sym c.deref.ensures.value) (parts_below C test n (test c.args.rest.now) c.in_ok-parts.parts.items c.requires.below c.in_ok-parts.ensures.inside)

pub part_groups-requires-clause-apart : goal.part_groups-requires-clause-apart
part_groups-requires-clause-apart g c = λ x. omega (arith, c.in_ok-parts.ensures.parts.once x, digit_one (g.C.CountySet.test c.args.rest.now x), ap (λ z. count_in x (lists_of (length c.args.graph.now.ordered.now.order) g.C.CountySet.test z)) c.deref.ensures.value)

pub returns-clause-groups : goal.returns-clause-groups
returns-clause-groups g c = λ s rest next round order format.
    let C = g.row.C.Denot in
    let test = g.C.CountySet.test in
    let p = problem_at c.args.graph.now.ordered.now in
    let n = length c.args.graph.now.ordered.now.order in
    let size = c.args.size in
    let parts = c.in_ok-parts.parts.items in
    let groups = c.in_ok-groups.groups.items in
    let are : AreParts p s.rest (lists_of n test parts) = subst (λ z. AreParts p z (lists_of n test parts)) (sym rest) c.in_ok-parts.ensures.parts in
    let found : ArePartGroups test p n size parts groups = subst (λ z. ArePartGroups test p n size z groups) c.deref.ensures.value c.in_ok-groups.ensures.groups in
    found_groups C test p n size s parts groups c.in_ok-sorted.field-0.items c.requires.graph.rows.problem next are found c.in_ok-sorted.ensures.same (c.in_ok-sorted.ensures.sorted n found.below) round order format

pub returns-clause-below : goal.returns-clause-below
returns-clause-below g c =
    let C = g.row.C.Denot in
    let test = g.C.CountySet.test in
    let n = length c.args.graph.now.ordered.now.order in
    all_moved (λ (z : C). (x : ℕ) → test z x ≡ true → x < n) c.in_ok-groups.groups.items c.in_ok-sorted.field-0.items c.in_ok-sorted.ensures.same c.in_ok-groups.ensures.groups.below
