use Rattle.std.proofs.Common.{◌≡◌, ℕ, ◌<◌, true, nat_le, ◌&&◌, not, ◌==◌, refl, sym, ap, ◌∙◌, subst, length, arith}
use Rattle.std.specs.Cmp.Lexicographic.{slice_cmp}
use Rattle.std.specs.Ordering.{nat_cmp, is_lt}
use Rattle.std.specs.List.Sorted.{IsSortedBy}
use Rattle.std.proofs.lemmas.Bool.{and_parts, eq-eqb}
use Rattle.std.proofs.lemmas.List.Sorted.{length_permutation}
use Rattle.county_problem.specs.OrderedValue.{problem_at}
use Rattle.connected_sets.proofs.PartLists.{parted_fewer}
use Rattle.connected_laws.specs.Growing.{only, sort_key}
use Rattle.connected_laws.specs.Listing.{lists_of}
use Rattle.connected_laws.proofs.Keys.{all_moved}
use Rattle.state_groups.specs.StateValue.{state_of}
use Rattle.certificate_laws.specs.Groups.{IsSetWithin}
use Rattle.grouping_laws.specs.Places.{places_below}
use Rattle.state_groups.specs.Keeping.{others}
use Rattle.state_groups.specs.People.{fewer_tables}
use Rattle.state_groups.proofs.Deciding.{decided}
use Rattle.state_groups.proofs.Starting.{no_steps}
use Rattle.state_groups.proofs.Sizes.{Begun, IsFound, less_open, found_none, found_more, found_groups, steps_more, steps_within}
use Rattle.state_groups.proofs.lists.groups_of.Goals as goal

pub loop-place-init : goal.loop-place-init
loop-place-init g c =
    let test = g.C.CountySet.test in
    let p = problem_at c.args.graph.now.ordered.now in
    let n = length c.args.graph.now.ordered.now.order in
    let s = state_of test c.args.state.now in
    let i = c.args.size in
    let region = test c.in_ok-region.region in
    record {
      left = λ x e. sym (c.in_ok-region.ensures x) ∙ e;
      found = λ keep d. subst (IsFound g.row.C.Denot test p n s i region keep) (sym c.new-sets.ensures.items) (found_none g.row.C.Denot test p n s i region keep c.in_ok-region.ensures);
      stepped = no_steps (Begun p n s i region) c.args.steps.now.used c.args.steps.now.used refl;
      counted = omega (arith, ap length c.new-sets.ensures.items);
      limit = refl;
    }

pub most_populous-requires : goal.most_populous-requires
most_populous-requires g c =
    let s = state_of (g.C.CountySet.test) c.args.state.now in
    λ x e. c.requires.rest x (and_parts (s.rest x) (nat_le (s.least x) c.args.size) (c.loop-place.invariant.left x e)).0

pub search-requires-clause-below : goal.search-requires-clause-below
search-requires-clause-below g c =
    let s = state_of (g.C.CountySet.test) c.args.state.now in
    λ x e. c.requires.rest x (and_parts (s.rest x) (nat_le (s.least x) c.args.size) (c.loop-place.invariant.left x (sym (c.in_ok-left.ensures.places x) ∙ e))).0

pub search-requires-clause-tables : goal.search-requires-clause-tables
search-requires-clause-tables g c =
    let test = g.C.CountySet.test in
    let p = problem_at c.args.graph.now.ordered.now in
    let n = length c.args.graph.now.ordered.now.order in
    fewer_tables c.args.format p n c.args.size (test c.args.state.now.rest) (test c.in_ok-region.region) (test c.in_ok-left.left) c.in_ok-tables.tables
    (λ x e. c.in_ok-region.ensures x ∙ c.loop-place.invariant.left x (sym (c.in_ok-left.ensures.places x) ∙ e)) c.in_ok-tables.ensures

pub loop-place-smaller : goal.loop-place-smaller
loop-place-smaller g c =
    let test = g.C.CountySet.test in
    let n = length c.args.graph.now.ordered.now.order in
    let s = state_of test c.args.state.now in
    let i = c.args.size in
    let region = test c.loop-place.region in
    let at = c.in-Some.place in
    let there = c.in-Some.ensures in
    parted_fewer n at region (only at) (test c.without-region.result) (c.requires.rest at (and_parts (s.rest at) (nat_le (s.least at) i) (c.loop-place.invariant.left at there)).0) there (eq-eqb at at refl) c.without-region.ensures.places

pub loop-place-preserved : goal.loop-place-preserved
loop-place-preserved g c =
    let test = g.C.CountySet.test in
    let p = problem_at c.args.graph.now.ordered.now in
    let n = length c.args.graph.now.ordered.now.order in
    let s = state_of test c.args.state.now in
    let i = c.args.size in
    let inv = c.loop-place.invariant in
    let region = test c.loop-place.region in
    let less = test c.without-region.result in
    let at = c.in-Some.place in
    let there = c.in-Some.ensures in
    let free = others (test c.in_ok-left.left) at in
    let free_is : (x : ℕ) → free x ≡ (region x && not (x == at)) = λ x. ap (λ z. z && not (x == at)) (c.in_ok-left.ensures.places x) in
    record {
      left = less_open s i at region less c.without-region.ensures.places inv.left;
      found = λ keep d. found_more g.row.C.Denot test p n s i at keep region free less c.loop-place.sets.items c.search.new.groups.items inv.left there free_is c.without-region.ensures.places (inv.found keep d) (c.in_ok-search.ensures.listed keep d);
      stepped = steps_more p n s i at region free less c.args.steps.now.used c.loop-place.steps.used c.search.new.steps.used inv.left there free_is c.without-region.ensures.places inv.stepped c.search.ensures.steps;
      counted = omega (arith, inv.counted, c.in_ok-search.ensures.counted);
      limit = c.search.ensures.limit ∙ inv.limit;
    }

pub returns-in_err-search-clause-steps : goal.returns-in_err-search-clause-steps
returns-in_err-search-clause-steps g c =
    let test = g.C.CountySet.test in
    let p = problem_at c.args.graph.now.ordered.now in
    let n = length c.args.graph.now.ordered.now.order in
    let s = state_of test c.args.state.now in
    let i = c.args.size in
    let inv = c.loop-place.invariant in
    let region = test c.loop-place.region in
    let at = c.in-Some.place in
    let there = c.in-Some.ensures in
    let free = others (test c.in_ok-left.left) at in
    let free_is : (x : ℕ) → free x ≡ (region x && not (x == at)) = λ x. ap (λ z. z && not (x == at)) (c.in_ok-left.ensures.places x) in
    steps_within p n s i (others region at) c.args.steps.now.used c.search.new.steps.used (steps_more p n s i at region free (others region at) c.args.steps.now.used c.loop-place.steps.used c.search.new.steps.used inv.left there free_is (λ x. refl) inv.stepped c.search.ensures.steps)

pub returns-in_err-left-clause-steps : goal.returns-in_err-left-clause-steps
returns-in_err-left-clause-steps g c =
    let test = g.C.CountySet.test in
    let p = problem_at c.args.graph.now.ordered.now in
    let n = length c.args.graph.now.ordered.now.order in
    steps_within p n (state_of test c.args.state.now) c.args.size (test c.loop-place.region) c.args.steps.now.used c.loop-place.steps.used c.loop-place.invariant.stepped

pub returns-in_err-sorted-clause-steps : goal.returns-in_err-sorted-clause-steps
returns-in_err-sorted-clause-steps g c =
    let test = g.C.CountySet.test in
    let p = problem_at c.args.graph.now.ordered.now in
    let n = length c.args.graph.now.ordered.now.order in
    steps_within p n (state_of test c.args.state.now) c.args.size (test c.loop-place.region) c.args.steps.now.used c.loop-place.steps.used c.loop-place.invariant.stepped

pub returns-in_err-region-clause-steps : goal.returns-in_err-region-clause-steps
returns-in_err-region-clause-steps g c =
    let test = g.C.CountySet.test in
    no_steps (IsSetWithin (problem_at c.args.graph.now.ordered.now) (places_below (length c.args.graph.now.ordered.now.order)) (state_of test c.args.state.now) c.args.size) c.args.steps.now.used c.args.steps.now.used refl

pub returns-clause-steps : goal.returns-clause-steps
returns-clause-steps g c =
    let test = g.C.CountySet.test in
    let p = problem_at c.args.graph.now.ordered.now in
    let n = length c.args.graph.now.ordered.now.order in
    steps_within p n (state_of test c.args.state.now) c.args.size (test c.loop-place.region) c.args.steps.now.used c.loop-place.steps.used c.loop-place.invariant.stepped

pub returns-clause-groups : goal.returns-clause-groups
returns-clause-groups g c =
    let test = g.C.CountySet.test in
    let p = problem_at c.args.graph.now.ordered.now in
    let n = length c.args.graph.now.ordered.now.order in
    let s = state_of test c.args.state.now in
    let i = c.args.size in
    let inv = c.loop-place.invariant in
    let k = decided c.args.format p n i true s c.requires.graph.rows.problem refl c.requires.rest in
    let found = inv.found k.0 k.1 in
    let up : IsSortedBy (λ g' h. is_lt (slice_cmp nat_cmp (sort_key g') (sort_key h))) (lists_of n test c.in_ok-sorted.field-0.items) = c.in_ok-sorted.ensures.sorted n found.below in
    found_groups g.row.C.Denot test c.args.format p n s i k.0 (test c.loop-place.region) c.loop-place.sets.items c.in_ok-sorted.field-0.items k.1 c.in_default.ensures found c.in_ok-sorted.ensures.same up

pub returns-clause-below : goal.returns-clause-below
returns-clause-below g c =
    let test = g.C.CountySet.test in
    let p = problem_at c.args.graph.now.ordered.now in
    let n = length c.args.graph.now.ordered.now.order in
    let s = state_of test c.args.state.now in
    let i = c.args.size in
    let inv = c.loop-place.invariant in
    let k = decided c.args.format p n i true s c.requires.graph.rows.problem refl c.requires.rest in
    all_moved (λ (z : g.row.C.Denot). (x : ℕ) → test z x ≡ true → x < n) c.loop-place.sets.items c.in_ok-sorted.field-0.items c.in_ok-sorted.ensures.same (inv.found k.0 k.1).below

pub returns-clause-counted : goal.returns-clause-counted
returns-clause-counted g c =
    let same = length_permutation c.loop-place.sets.items c.in_ok-sorted.field-0.items c.in_ok-sorted.ensures.same in
    omega (arith, c.loop-place.invariant.counted, same)

pub returns-in_err-search-clause-limit : goal.returns-in_err-search-clause-limit
returns-in_err-search-clause-limit g c = c.search.ensures.limit ∙ c.loop-place.invariant.limit

pub returns-clause-limit : goal.returns-clause-limit
returns-clause-limit g c = c.loop-place.invariant.limit

pub returns-clause-stopped : goal.returns-clause-stopped
returns-clause-stopped g c = λ h. cc
