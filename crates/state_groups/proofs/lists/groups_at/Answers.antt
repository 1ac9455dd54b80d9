use Rattle.std.proofs.Common.{◌≡◌, ℕ, ◌++◌, ◌<◌, true, false, List, refl, sym, ap, ◌∙◌, subst, length, arith}
use Rattle.std.specs.Cmp.Lexicographic.{slice_cmp}
use Rattle.std.specs.Ordering.{nat_cmp, is_lt}
use Rattle.std.specs.List.Sorted.{IsSortedBy}
use Rattle.std.proofs.lemmas.List.Sorted.{length_permutation}
use Rattle.county_problem.specs.OrderedValue.{problem_at}
use Rattle.connected_laws.specs.Growing.{only, AreKept, sort_key}
use Rattle.connected_laws.specs.Listing.{lists_of, AreBelow}
use Rattle.connected_laws.proofs.Keys.{all_moved}
use Rattle.state_groups.specs.StateValue.{state_of}
use Rattle.certificate_laws.specs.Groups.{IsSetAt}
use Rattle.grouping_laws.specs.Places.{places_below}
use Rattle.state_groups.specs.Keeping.{others}
use Rattle.state_groups.proofs.Deciding.{decided}
use Rattle.state_groups.proofs.Starting.{starts_open, no_steps, steps_at, kept_groups}
use Rattle.state_groups.proofs.lists.groups_at.Goals as goal

pub returns-clause-groups : goal.returns-clause-groups
returns-clause-groups g c =
    let test = g.C.CountySet.test in
    let p = problem_at c.args.graph.now.ordered.now in
    let n = length c.args.graph.now.ordered.now.order in
    let s = state_of test c.args.state.now in
    let limit = c.args.limit in
    let at = c.args.place in
    let region = test c.in_ok-region.region in
    let k = decided c.args.format p n limit false s c.requires.graph.rows.problem refl c.requires.rest in
    let listed = c.in_ok-search.ensures.listed k.0 k.1 in
    let more = listed.more ∙ ap (λ (z : List g.row.C.Denot). z ++ listed.added) c.new-sets.ensures.items in
    let kept : AreKept p n limit k.0 (only at) (others region at) (lists_of n test c.search.new.groups.items) = subst (λ (z : List g.row.C.Denot). AreKept p n limit k.0 (only at) (others region at) (lists_of n test z)) (sym more) listed.kept in
    let up : IsSortedBy (λ g' h. is_lt (slice_cmp nat_cmp (sort_key g') (sort_key h))) (lists_of n test c.in_ok-sorted.field-0.items) =
    c.in_ok-sorted.ensures.sorted n (subst (λ (z : List g.row.C.Denot). AreBelow n test z) (sym more) listed.below) in
    kept_groups g.row.C.Denot test c.args.format p n limit at s (only at) (others region at) k.0 c.search.new.groups.items c.in_ok-sorted.field-0.items k.1 (starts_open n at limit s region c.requires.rest c.in_ok-region.ensures c.requires.there) kept c.in_ok-sorted.ensures.same up

pub returns-clause-below : goal.returns-clause-below
returns-clause-below g c =
    let test = g.C.CountySet.test in
    let p = problem_at c.args.graph.now.ordered.now in
    let n = length c.args.graph.now.ordered.now.order in
    let s = state_of test c.args.state.now in
    let k = decided c.args.format p n c.args.limit false s c.requires.graph.rows.problem refl c.requires.rest in
    let listed = c.in_ok-search.ensures.listed k.0 k.1 in
    let more = listed.more ∙ ap (λ (z : List g.row.C.Denot). z ++ listed.added) c.new-sets.ensures.items in
    all_moved (λ (z : g.row.C.Denot). (x : ℕ) → test z x ≡ true → x < n) c.search.new.groups.items c.in_ok-sorted.field-0.items c.in_ok-sorted.ensures.same
    (subst (λ (z : List g.row.C.Denot). AreBelow n test z) (sym more) listed.below)

pub returns-clause-counted : goal.returns-clause-counted
returns-clause-counted g c =
    let same = length_permutation c.search.new.groups.items c.in_ok-sorted.field-0.items c.in_ok-sorted.ensures.same in
    omega (arith, c.in_ok-search.ensures.counted, same, ap length c.new-sets.ensures.items)

pub returns-in_err-region-clause-steps : goal.returns-in_err-region-clause-steps
returns-in_err-region-clause-steps g c =
    let test = g.C.CountySet.test in
    no_steps (IsSetAt (problem_at c.args.graph.now.ordered.now) (places_below (length c.args.graph.now.ordered.now.order)) (state_of test c.args.state.now) c.args.place c.args.limit) c.args.steps.now.used c.args.steps.now.used refl

pub returns-in_err-search-clause-steps : goal.returns-in_err-search-clause-steps
returns-in_err-search-clause-steps g c =
    let test = g.C.CountySet.test in
    let n = length c.args.graph.now.ordered.now.order in
    let s = state_of test c.args.state.now in
    let region = test c.in_ok-region.region in
    steps_at (problem_at c.args.graph.now.ordered.now) n c.args.limit c.args.place s (only c.args.place) (others region c.args.place) c.args.steps.now.used c.search.new.steps.used (starts_open n c.args.place c.args.limit s region c.requires.rest c.in_ok-region.ensures c.requires.there) c.search.ensures.steps

pub returns-in_err-sorted-clause-steps : goal.returns-in_err-sorted-clause-steps
returns-in_err-sorted-clause-steps g c =
    let test = g.C.CountySet.test in
    let n = length c.args.graph.now.ordered.now.order in
    let s = state_of test c.args.state.now in
    let region = test c.in_ok-region.region in
    steps_at (problem_at c.args.graph.now.ordered.now) n c.args.limit c.args.place s (only c.args.place) (others region c.args.place) c.args.steps.now.used c.search.new.steps.used (starts_open n c.args.place c.args.limit s region c.requires.rest c.in_ok-region.ensures c.requires.there) c.search.ensures.steps

pub returns-clause-steps : goal.returns-clause-steps
returns-clause-steps g c =
    let test = g.C.CountySet.test in
    let n = length c.args.graph.now.ordered.now.order in
    let s = state_of test c.args.state.now in
    let region = test c.in_ok-region.region in
    steps_at (problem_at c.args.graph.now.ordered.now) n c.args.limit c.args.place s (only c.args.place) (others region c.args.place) c.args.steps.now.used c.search.new.steps.used (starts_open n c.args.place c.args.limit s region c.requires.rest c.in_ok-region.ensures c.requires.there) c.search.ensures.steps

pub returns-clause-limit : goal.returns-clause-limit
returns-clause-limit g c = c.search.ensures.limit

pub returns-clause-stopped : goal.returns-clause-stopped
returns-clause-stopped g c = λ h. cc
