use Rattle.std.proofs.Common.{Bool, true, false, refl, ◌≡◌, ◌∙◌, ◌<◌, ◌+◌, ◌||◌, ◌&&◌, not, ◌==◌, ℕ, ap, length, arith}
use Rattle.std.proofs.lemmas.Bool.{false≢true, eq-eqb}
use Rattle.connected_laws.specs.Growing.{IsMove}
use Rattle.connected_laws.proofs.Growing.{fewer_free}
use Rattle.connected_sets.specs.Graphs.{problem_at}
use Rattle.connected_sets.proofs.RowLemmas.{row_named}
use Rattle.connected_sets.proofs.Filling.{filled_start, filled_step, filled_part}
use Rattle.connected_sets.proofs.part.part_around.Goals as goal

or_same : (a : Bool) (x : ℕ) → (a || (x == x)) ≡ true
or_same true x = refl
or_same false x = eq-eqb x x refl

or_kept : (a b : Bool) → a ≡ true → (a || b) ≡ true
or_kept true b e = refl
or_kept false b e = absurd (false≢true e)

pub loop-next-init : goal.loop-next-init
loop-next-init g c =
    let test = g.C.CountySet.test in
    let p = problem_at c.args.graph.now.ordered.now in
    let n = length c.args.graph.now.ordered.now.order in
    let place = c.args.place in
    let filled = filled_start p n place (test c.args.region.now) (test c.in_ok-part.part) (test c.without-rest.result) (test c.index.result.now) (test c.intersection-front.result) c.requires.below c.requires.there
    (λ x. c.in_ok-part.ensures.places x ∙ ap (λ z. z || (x == place)) (c.in_ok-empty.ensures.places x))
    (λ x. c.without-rest.ensures.places x ∙ ap (λ z. z && not (x == place)) (c.in_ok-copy.ensures.places x))
    (row_named g.row.C.Denot test p n c.args.graph.now.near.items c.requires.graph.rows place c.from.result c.index.result.now c.from.ensures c.index.ensures (c.requires.below place c.requires.there))
    (λ x. c.intersection-front.ensures.places x ∙ ap (λ z. z && test c.without-rest.result x) (c.in_ok-copy-2.ensures.places x)) in
    record { filled = filled; around = c.in_ok-part.ensures.places place ∙ or_same (test c.in_ok-empty.field-0 place) place }

pub loop-next-smaller : goal.loop-next-smaller
loop-next-smaller g c =
    let test = g.C.CountySet.test in
    let n = length c.args.graph.now.ordered.now.order in
    let inv = c.loop-next.invariant.filled in
    let m : IsMove (test c.loop-next.part) (test c.loop-next.rest) (test c.in_ok-part-2.part) (test c.without-rest-in-Some.result) c.in-Some.next = record { with = c.in_ok-part-2.ensures.places; without = c.without-rest-in-Some.ensures.places } in
    fewer_free (problem_at c.args.graph.now.ordered.now) n (n + 1) (test c.loop-next.part) (test c.loop-next.rest) (test c.in_ok-part-2.part) (test c.without-rest-in-Some.result) c.in-Some.next inv.growth (inv.fringe.each c.in-Some.next c.in-Some.ensures.least.1).is_free m

pub loop-next-preserved : goal.loop-next-preserved
loop-next-preserved g c =
    let test = g.C.CountySet.test in
    let p = problem_at c.args.graph.now.ordered.now in
    let n = length c.args.graph.now.ordered.now.order in
    let inv = c.loop-next.invariant.filled in
    let near = c.args.graph.now.near.items in
    let found = c.index-in-Some.result.now in
    let next = c.in-Some.next in
    let is = c.in-Some.ensures.least.1 in
    let there : next < n = inv.growth.free_below next (inv.fringe.each next is).is_free in
    let m : IsMove (test c.loop-next.part) (test c.loop-next.rest) (test c.in_ok-part-2.part) (test c.without-rest-in-Some.result) next = record { with = c.in_ok-part-2.ensures.places; without = c.without-rest-in-Some.ensures.places } in
    let filled = filled_step p n (test c.args.region.now) (test c.loop-next.part) (test c.loop-next.rest) (test c.loop-next.front) (test c.in_ok-part-2.part) (test c.without-rest-in-Some.result) (test found) (test c.intersection-front-in-Some.result) next
    c.requires.graph.rows.problem.symmetric inv is m
    (row_named g.row.C.Denot test p n near c.requires.graph.rows next c.from-in-Some.result found c.from-in-Some.ensures c.index-in-Some.ensures there)
    (λ x. c.intersection-front-in-Some.ensures.places x ∙ ap (λ z. z && test c.without-rest-in-Some.result x) (c.in_ok-union.ensures.places x)) in
    record { filled = filled; around = c.in_ok-part-2.ensures.places c.args.place ∙ or_kept (test c.loop-next.part c.args.place) (c.args.place == next) c.loop-next.invariant.around }

pub returns-clause-part : goal.returns-clause-part
returns-clause-part g c =
    let test = g.C.CountySet.test in
    filled_part (problem_at c.args.graph.now.ordered.now) (length c.args.graph.now.ordered.now.order) (test c.args.region.now) (test c.loop-next.part) (test c.loop-next.rest) (test c.loop-next.front) c.loop-next.invariant.filled (λ x. c.in_default.ensures.least x (omega arith))

pub returns-clause-inside : goal.returns-clause-inside
returns-clause-inside g c = c.loop-next.invariant.filled.inside

pub returns-clause-around : goal.returns-clause-around
returns-clause-around g c = c.loop-next.invariant.around
