use Rattle.std.proofs.Common.{◌≡◌, ◌+◌, List, true, arith, Some, subst, sym, map, take, length}
use Rattle.std.proofs.lemmas.List.{take_all}
use Rattle.place_sets.specs.PlaceSets.{places_of}
use Rattle.grouping_laws.specs.Problem.{Suits, people_of}
use Rattle.grouping_laws.specs.SeatWindow.{IsRun}
use Rattle.county_problem.specs.OrderedValue.{problem_at}
use Rattle.state_groups.specs.Sums.{AreSums}
use Rattle.state_groups.proofs.SeatLemmas.{sums_none, sums_more, sets_more, item_in, taken}
use Rattle.state_groups.proofs.seats.seat_sums.Goals as goal

pub loop-set-init : goal.loop-set-init
loop-set-init g c = sums_none (problem_at c.args.ordered.now)

pub returns-in_default : goal.returns-in_default
returns-in_default g c =
    let test = g.C.CountySet.test in
    let n = length c.args.ordered.now.order in
    let f = λ (z : g.row.C.Denot). places_of n (test z) in
    (f c.set-item.result, item_in f c.args.sets.now c.loop-set.set-index c.set-item.result c.loop-set-test.true c.set-item.is, c.in_default.ensures.run)

pub loop-set-preserved : goal.loop-set-preserved
loop-set-preserved g c =
    let test = g.C.CountySet.test in
    let p = problem_at c.args.ordered.now in
    let n = length c.args.ordered.now.order in
    let f = λ (z : g.row.C.Denot). places_of n (test z) in
    let low = c.in-Some.low in
    let high = c.in-Some.high in
    let run : IsRun (Suits p (people_of p (f c.set-item.result))) (Some (low, high)) = c.in-Some.ensures.run in
    let more = sums_more p (map f (take c.loop-set.set-index c.args.sets.now)) (f c.set-item.result) c.loop-set.least c.loop-set.greatest low high c.loop-set.invariant c.in-Some.ensures.small.0 c.in-Some.ensures.small.1 run in
    subst (λ z. AreSums p z (c.loop-set.least + low) (c.loop-set.greatest + high)) (sym (sets_more f c.args.sets.now c.loop-set.set-index c.set-item.result c.loop-set-test.true c.set-item.is)) more

pub seats_in-requires : goal.seats_in-requires
seats_in-requires g c = λ x e. c.requires.below c.loop-set.set-index c.set-item.result c.loop-set-test.true x (subst (λ (z : g.row.C.Denot). g.C.CountySet.test z x ≡ true) c.set-item.is e)

pub overflow_add-least : goal.overflow_add-least
overflow_add-least g c =
    let f = λ (z : g.row.C.Denot). places_of (length c.args.ordered.now.order) (g.C.CountySet.test z) in
    omega (arith, c.loop-set.invariant.small.0, c.in-Some.ensures.small.0, taken f c.args.sets.now c.loop-set.set-index c.loop-set-test.true, c.requires.few, c.loop-set-test.true)

pub overflow_add-greatest : goal.overflow_add-greatest
overflow_add-greatest g c =
    let f = λ (z : g.row.C.Denot). places_of (length c.args.ordered.now.order) (g.C.CountySet.test z) in
    omega (arith, c.loop-set.invariant.small.1, c.in-Some.ensures.small.1, taken f c.args.sets.now c.loop-set.set-index c.loop-set-test.true, c.requires.few, c.loop-set-test.true)

pub returns : goal.returns
returns g c =
    let f = λ (z : g.row.C.Denot). places_of (length c.args.ordered.now.order) (g.C.CountySet.test z) in
    subst (λ (z : List g.row.C.Denot). AreSums (problem_at c.args.ordered.now) (map f z) c.loop-set.least c.loop-set.greatest) (take_all c.loop-set.set-index c.args.sets.now c.loop-set-test.false) c.loop-set.invariant
