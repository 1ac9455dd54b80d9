use Rattle.std.proofs.Common.{◌≡◌, ℕ, ◌<◌, true, false, refl, sym, ◌∙◌, length, arith}
use Rattle.std.proofs.lemmas.Bool.{false≢true}
use Rattle.grouping_laws.specs.Sets.{contains}
use Rattle.certificate_laws.specs.StuckParts.{CannotFill}
use Rattle.place_sets.specs.PlaceSets.{places_of}
use Rattle.connected_laws.proofs.PlaceLists.{placed, placed_test}
use Rattle.county_problem.specs.OrderedValue.{problem_at}
use Rattle.connected_sets.proofs.PartLists.{parted_inside, parted_fewer}
use Rattle.state_groups.specs.StateValue.{state_of}
use Rattle.state_groups.proofs.StuckLemmas.{passed_start, passed_more, passed_none, passed_cut}
use Rattle.state_groups.proofs.stuck_parts.has_stuck_part.Goals as goal

pub loop-place-init : goal.loop-place-init
loop-place-init g c =
    let test = g.C.CountySet.test in
    passed_start (problem_at c.args.graph.now.ordered.now) (state_of test c.args.state.now) (test c.args.region) (test c.args.free.now)

pub part_around-requires-clause-below : goal.part_around-requires-clause-below
part_around-requires-clause-below g c =
    let test = g.C.CountySet.test in
    let inv = c.loop-place.invariant in
    λ x e. c.requires.below x (parted_inside (problem_at c.args.graph.now.ordered.now) (test c.args.region) (test c.loop-place.rest) inv.found inv.parted x e)

pub is_cut_off-requires-clause-below : goal.is_cut_off-requires-clause-below
is_cut_off-requires-clause-below g c =
    let test = g.C.CountySet.test in
    let inv = c.loop-place.invariant in
    λ x e. c.requires.below x (parted_inside (problem_at c.args.graph.now.ordered.now) (test c.args.region) (test c.loop-place.rest) inv.found inv.parted x (c.in_ok-part.ensures.inside x e))

pub returns-then-is_cut_off : goal.returns-then-is_cut_off
returns-then-is_cut_off g c =
    let test = g.C.CountySet.test in
    let n = length c.args.graph.now.ordered.now.order in
    let part = test c.in_ok-part.part in
    let cut = c.if-is_cut_off.ensures.0 refl in
    (λ e. passed_cut (problem_at c.args.graph.now.ordered.now) (state_of test c.args.state.now) (test c.args.region) (test c.args.free.now) (test c.loop-place.rest) (places_of n part) c.loop-place.invariant c.in_ok-part.ensures.part (λ x m. cut.0 x (placed_test n x part m)) cut.1, λ e. refl)

pub loop-place-smaller : goal.loop-place-smaller
loop-place-smaller g c =
    let test = g.C.CountySet.test in
    let n = length c.args.graph.now.ordered.now.order in
    let inv = c.loop-place.invariant in
    let is = c.in-Some.ensures.least.1 in
    let inside = parted_inside (problem_at c.args.graph.now.ordered.now) (test c.args.region) (test c.loop-place.rest) inv.found inv.parted c.in-Some.place is in
    parted_fewer n c.in-Some.place (test c.loop-place.rest) (test c.in_ok-part.part) (test c.in_ok-part.left) (c.requires.below c.in-Some.place inside) is c.in_ok-part.ensures.around c.in_ok-part.ensures.rest

pub loop-place-preserved : goal.loop-place-preserved
loop-place-preserved g c =
    let test = g.C.CountySet.test in
    let p = problem_at c.args.graph.now.ordered.now in
    let s = state_of test c.args.state.now in
    let n = length c.args.graph.now.ordered.now.order in
    let part = test c.in_ok-part.part in
    let free = test c.args.free.now in
    let inv = c.loop-place.invariant in
    let below : (x : ℕ) → part x ≡ true → x < n = λ x e. c.requires.below x (parted_inside p (test c.args.region) (test c.loop-place.rest) inv.found inv.parted x (c.in_ok-part.ensures.inside x e)) in
    let filled : ((x : ℕ) → contains (places_of n part) x ≡ true → free x ≡ false) → ¬ CannotFill p s (places_of n part) =
    λ off cannot. false≢true (sym c.if-is_cut_off.false ∙ c.is_cut_off.ensures.1 (λ x e. off x (placed n x part (below x e) e), cannot)) in
    passed_more p s n (test c.args.region) free (test c.loop-place.rest) part (test c.in_ok-part.left) c.requires.graph.rows.problem.symmetric c.requires.below inv c.in_ok-part.ensures.part c.in_ok-part.ensures.rest filled

pub returns : goal.returns
returns g c =
    let test = g.C.CountySet.test in (
      λ e. absurd (false≢true e),
      λ cut. absurd (passed_none (problem_at c.args.graph.now.ordered.now) (state_of test c.args.state.now) (test c.args.region) (test c.args.free.now) (test c.loop-place.rest) c.loop-place.invariant (λ x. c.in_default.ensures.least x (omega arith)) cut),
    )
