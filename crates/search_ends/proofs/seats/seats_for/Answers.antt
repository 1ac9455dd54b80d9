use Rattle.std.proofs.Common.{◌≡◌, ℕ, List, map, subst, sym, ap, ◌∙◌, arith}
use Rattle.grouping_laws.specs.Sets.{sum_by}
use Rattle.county_problem.specs.ProblemValue.{ProblemValue, problem_of}
use Rattle.county_problem.specs.Allotting.{SuitEach}
use Rattle.search_ends.proofs.SeatLemmas.{people, suit_sets, suit_people, all_people}
use Rattle.search_ends.proofs.seats.seats_for.Goals as goal

pub allot-requires : goal.allot-requires
allot-requires g c =
    let test = g.C.CountySet.test in
    let order = c.args.ordered.now.order in
    let p = problem_of c.args.ordered.now.problem in
    let all = all_people test p order c.args.sets.now c.places-places.ensures.order c.requires.once in
    let held = ap (sum_by (λ n. n)) (c.deref.ensures.value ∙ c.in_ok-people.ensures) in
    omega (arith, held, all, c.places-places.ensures.people, ap (λ (v : ProblemValue). v.total_people) c.problem-problem.ensures.value)

pub unreachable-requires : goal.unreachable-requires
unreachable-requires g c =
    let test = g.C.CountySet.test in
    let order = c.args.ordered.now.order in
    let p = problem_of c.args.ordered.now.problem in
    let held : c.deref.result.now ≡ map (people test p order) c.args.sets.now = c.deref.ensures.value ∙ c.in_ok-people.ensures in
    let value = sym c.problem-problem.ensures.value in
    let none : (ks : List ℕ) → SuitEach (problem_of c.problem-problem.result.now) c.deref.result.now ks → sum_by (λ k. k) ks ≡ c.problem-problem.result.now.seats_left → ⊥ = rw c.in-None.is at c.in_ok-seats.ensures in
    let some = c.requires.some in
    none some.0
    (subst (λ (v : ProblemValue). SuitEach (problem_of v) c.deref.result.now some.0) value (subst (λ (z : List ℕ). SuitEach p z some.0) (sym held) (suit_people test p order c.args.sets.now some.0 some.1)))
    (some.2 ∙ ap (λ (v : ProblemValue). v.seats_left) value)

pub returns-clause-suit : goal.returns-clause-suit
returns-clause-suit g c =
    let test = g.C.CountySet.test in
    let order = c.args.ordered.now.order in
    let p = problem_of c.args.ordered.now.problem in
    let held : c.deref.result.now ≡ map (people test p order) c.args.sets.now = c.deref.ensures.value ∙ c.in_ok-people.ensures in
    let seats = c.in-Some.seats.items in
    let got : SuitEach (problem_of c.problem-problem.result.now) c.deref.result.now seats × (sum_by (λ k. k) seats ≡ c.problem-problem.result.now.seats_left) = rw c.in-Some.is at c.in_ok-seats.ensures in
    suit_sets test p order c.args.sets.now seats
    (subst (λ (z : List ℕ). SuitEach p z seats) held (subst (λ (v : ProblemValue). SuitEach (problem_of v) c.deref.result.now seats) c.problem-problem.ensures.value got.0))

pub returns-clause-sum : goal.returns-clause-sum
returns-clause-sum g c =
    let seats = c.in-Some.seats.items in
    let got : SuitEach (problem_of c.problem-problem.result.now) c.deref.result.now seats × (sum_by (λ k. k) seats ≡ c.problem-problem.result.now.seats_left) = rw c.in-Some.is at c.in_ok-seats.ensures in
    got.1 ∙ ap (λ (v : ProblemValue). v.seats_left) c.problem-problem.ensures.value
