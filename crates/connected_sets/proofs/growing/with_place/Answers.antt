use Rattle.std.proofs.Common.{◌≡◌, ℕ, ◌<◌, ◌&&◌, not, ◌==◌, length, arith, ap, ◌∙◌}
use Rattle.place_sets.proofs.PlaceSums.{total_all}
use Rattle.county_problem.specs.OrderedValue.{problem_at}
use Rattle.connected_laws.specs.Growing.{IsMove}
use Rattle.connected_laws.proofs.Fronts.{grown_front}
use Rattle.connected_laws.proofs.Growing.{grown_growth}
use Rattle.connected_laws.proofs.People.{people_with}
use Rattle.connected_sets.proofs.RowLemmas.{row_named}
use Rattle.connected_sets.proofs.growing.with_place.Goals as goal

pub overflow_add-people : goal.overflow_add-people
overflow_add-people g c =
    let test = g.C.CountySet.test in
    let p = problem_at c.args.input.now.graph.now.ordered.now in
    let n = length c.args.input.now.graph.now.ordered.now.order in
    omega (arith, total_all p.people n (test c.args.growth.now.set), c.requires.growth.people, c.requires.graph.people, c.requires.graph.bound)

pub returns-clause-moved : goal.returns-clause-moved
returns-clause-moved g c = record {
  with = c.in_ok-set.ensures.places;
  without = λ x. c.without-free.ensures.places x ∙ ap (λ z. z && not (x == c.args.place)) (c.in_ok-copy.ensures.places x);
}

pub returns-clause-growth : goal.returns-clause-growth
returns-clause-growth g c =
    let test = g.C.CountySet.test in
    let p = problem_at c.args.input.now.graph.now.ordered.now in
    let n = length c.args.input.now.graph.now.ordered.now.order in
    let old = c.args.growth.now in
    let set = test c.in_ok-set.set in
    let free = test c.without-free.result in
    let m : IsMove (test old.set) (test old.free) set free c.args.place = record { with = c.in_ok-set.ensures.places; without = λ x. c.without-free.ensures.places x ∙ ap (λ z. z && not (x == c.args.place)) (c.in_ok-copy.ensures.places x) } in
    let at = c.index.result.now in
    let near : (y : ℕ) → y < n → test at y ≡ p.adjacent c.args.place y =
    row_named g.row.C.Denot test p n c.args.input.now.graph.now.near.items c.requires.graph.rows c.args.place c.from-2.result at c.from-2.ensures c.index.ensures (c.requires.growth.growth.free_below c.args.place c.requires.there.is_free) in
    let sum = people_with p n c.args.input.now.limit (test old.set) (test old.free) set free c.args.place c.requires.growth.growth c.requires.there.is_free m in
    record {
      growth = grown_growth p n c.args.input.now.limit (test old.set) (test old.free) set free c.args.place c.requires.graph.rows.problem.symmetric c.requires.growth.growth c.requires.there c.requires.room m;
      front = grown_front p n c.args.input.now.limit (test old.set) (test old.free) (test old.front) set free (test at) (test c.intersection-front.result) c.args.place c.requires.growth.growth c.requires.there.is_free m c.requires.growth.front
          near (λ x. c.intersection-front.ensures.places x ∙ ap (λ z. z && free x) (c.in_ok-both.ensures.places x));
      people = omega (arith, sum, c.requires.growth.people, c.people.ensures, c.from.ensures);
    }
