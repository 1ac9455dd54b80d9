use Rattle.std.proofs.Common.{◌≡◌, ℕ, true, [], ◌∷◌, map, length, arith, sym, ap, ◌∙◌, subst, ⊎_elim, All}
use Rattle.std.proofs.lemmas.List.Elements.{All-append}
use Rattle.grouping_laws.proofs.Elements.{all_from_has}
use Rattle.std.proofs.lemmas.List.{map-append, length-append}
use Rattle.place_sets.specs.PlaceSets.{places_of}
use Rattle.connected_sets.specs.Graphs.{problem_at}
use Rattle.connected_sets.proofs.Filling.{few}
use Rattle.connected_sets.proofs.PartLists.{IsParted, parted_start, parted_inside, parted_more, parted_fewer, parted_all}
use Rattle.connected_sets.proofs.parts.parts_of.Goals as goal

pub loop-place-init : goal.loop-place-init
loop-place-init g c =
    let test = g.C.CountySet.test in
    let n = length c.args.graph.now.ordered.now.order in
    let parted = subst (IsParted (problem_at c.args.graph.now.ordered.now) (test c.args.region.now) (test c.in_ok-rest.rest)) (sym (ap (map (λ s. places_of n (test s))) c.new-parts.ensures.items))
    (parted_start (problem_at c.args.graph.now.ordered.now) (g.C.CountySet.test c.args.region.now) (g.C.CountySet.test c.in_ok-rest.rest) c.in_ok-rest.ensures.places) in
    record { parted = parted; inside = subst (All (λ (s : g.row.C.Denot). (x : ℕ) → test s x ≡ true → test c.args.region.now x ≡ true)) (sym c.new-parts.ensures.items) (all_from_has (λ (s : g.row.C.Denot). (x : ℕ) → test s x ≡ true → test c.args.region.now x ≡ true) [] (λ y (i : ⊥). absurd i)); few = omega (arith, few n (test c.in_ok-rest.rest), ap length c.new-parts.ensures.items) }

pub loop-place-smaller : goal.loop-place-smaller
loop-place-smaller g c =
    let test = g.C.CountySet.test in
    let p = problem_at c.args.graph.now.ordered.now in
    let n = length c.args.graph.now.ordered.now.order in
    let is = c.in-Some.ensures.least.1 in
    let inside = parted_inside p (test c.args.region.now) (test c.loop-place.rest) _ c.loop-place.invariant.parted c.in-Some.place is in
    parted_fewer n c.in-Some.place (test c.loop-place.rest) (test c.in_ok-part.part) (test c.in_ok-part.left) (c.requires.below c.in-Some.place inside) is c.in_ok-part.ensures.around c.in_ok-part.ensures.rest

pub loop-place-preserved : goal.loop-place-preserved
loop-place-preserved g c =
    let test = g.C.CountySet.test in
    let p = problem_at c.args.graph.now.ordered.now in
    let n = length c.args.graph.now.ordered.now.order in
    let old = c.loop-place.parts.items in
    let more = parted_more p n (test c.args.region.now) (test c.loop-place.rest) (test c.in_ok-part.part) (test c.in_ok-part.left) (map (λ s. places_of n (test s)) old) c.requires.graph.rows.problem.symmetric c.requires.below
    c.loop-place.invariant.parted c.in_ok-part.ensures.part c.in_ok-part.ensures.rest in
    let parted = subst (IsParted p (test c.args.region.now) (test c.in_ok-part.left)) (sym (ap (map (λ s. places_of n (test s))) c.in_ok-push.ensures.items ∙ map-append (λ s. places_of n (test s)) old _)) more in
    let Lies : g.row.C.Denot → Type 0 = λ s. (x : ℕ) → test s x ≡ true → test c.args.region.now x ≡ true in
    let lies : Lies c.in_ok-part.part = λ x e. parted_inside p (test c.args.region.now) (test c.loop-place.rest) (map (λ s. places_of n (test s)) old) c.loop-place.invariant.parted x (c.in_ok-part.ensures.inside x e) in
    let is = c.in-Some.ensures.least.1 in
    let there = c.requires.below c.in-Some.place (parted_inside p (test c.args.region.now) (test c.loop-place.rest) (map (λ s. places_of n (test s)) old) c.loop-place.invariant.parted c.in-Some.place is) in
    let fewer = parted_fewer n c.in-Some.place (test c.loop-place.rest) (test c.in_ok-part.part) (test c.in_ok-part.left) there is c.in_ok-part.ensures.around c.in_ok-part.ensures.rest in
    record {
      parted = parted;
      few = omega (arith, c.loop-place.invariant.few, fewer, ap length c.in_ok-push.ensures.items, length-append old (c.in_ok-part.part ∷ []));
      inside = subst (All Lies) (sym c.in_ok-push.ensures.items) (All-append Lies old (c.in_ok-part.part ∷ []) c.loop-place.invariant.inside (all_from_has Lies (c.in_ok-part.part ∷ []) (λ y i. ⊎_elim (λ e. subst Lies e lies) (λ (k : ⊥). absurd k) i)));
    }

pub returns-clause-parts : goal.returns-clause-parts
returns-clause-parts g c = parted_all (problem_at c.args.graph.now.ordered.now) (g.C.CountySet.test c.args.region.now) (g.C.CountySet.test c.loop-place.rest) _ c.loop-place.invariant.parted (λ x. c.in_default.ensures.least x (omega arith))

pub returns-clause-few : goal.returns-clause-few
returns-clause-few g c = omega (arith, c.loop-place.invariant.few)

pub returns-clause-inside : goal.returns-clause-inside
returns-clause-inside g c = c.loop-place.invariant.inside
