use Rattle.std.proofs.Common.{◌≡◌, ◌<◌, ℕ, true, subst, sym, ◌∙◌, length, arith}
use Rattle.place_sets.specs.PlaceSets.{places_of}
use Rattle.county_problem.specs.ProblemValue.{problem_of}
use Rattle.grouping_laws.proofs.PlaceProblem.{people_codes}
use Rattle.search_ends.proofs.SeatLemmas.{people, mapped_more, mapped_all}
use Rattle.search_ends.proofs.seats.people_of_sets.Goals as goal

pub people_in-requires : goal.people_in-requires
people_in-requires g c =
    let test = g.C.CountySet.test in
    let n = length c.args.ordered.now.order in
    record { below = subst (λ (s : g.row.C.Denot). (x : ℕ) → test s x ≡ true → x < n) (sym c.set-item.is) (c.requires c.loop-set.set-index c.set-item.result c.loop-set-test.true) }

pub loop-set-preserved : goal.loop-set-preserved
loop-set-preserved g c =
    let test = g.C.CountySet.test in
    let order = c.args.ordered.now.order in
    let p = problem_of c.args.ordered.now.problem in
    mapped_more (people test p order) c.args.sets.now c.loop-set.people.items c.push.new.self.items c.loop-set.set-index c.set-item.result c.people_in.result c.loop-set-test.true c.set-item.is c.in_ok-push.ensures.items
    (c.people_in.ensures.value ∙ sym (people_codes p order (places_of (length order) (test c.set-item.result)))) c.loop-set.invariant

pub returns : goal.returns
returns g c =
    let test = g.C.CountySet.test in
    let order = c.args.ordered.now.order in
    let p = problem_of c.args.ordered.now.problem in
    mapped_all (people test p order) c.args.sets.now c.loop-set.people.items c.loop-set.set-index (omega (arith, c.loop-set-test.false)) c.loop-set.invariant
