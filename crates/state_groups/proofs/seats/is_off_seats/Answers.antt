use Rattle.std.proofs.Common.{◌≡◌, ℕ, ◌<◌, true, List, get_or, arith, ◌+◌, ◌||◌, nat_lt, None, ap, ◌∙◌, subst, sym, map, length}
use Rattle.std.proofs.lemmas.Bool.{false≢true}
use Rattle.std.proofs.lemmas.List.{length-map}
use Rattle.place_sets.specs.PlaceSets.{places_of}
use Rattle.county_problem.specs.ProblemValue.{ProblemValue}
use Rattle.county_problem.specs.OrderedValue.{problem_at}
use Rattle.state_groups.specs.StateValue.{state_of}
use Rattle.state_groups.specs.Sums.{AreSums, IsSums}
use Rattle.state_groups.proofs.SeatLemmas.{closed_none, parts_none, off_by}
use Rattle.state_groups.proofs.seats.is_off_seats.Goals as goal

pub returns-in_default : goal.returns-in_default
returns-in_default g c =
    let test = g.C.CountySet.test in
    let p = problem_at c.args.graph.now.ordered.now in
    let n = length c.args.graph.now.ordered.now.order in
    let s = state_of test c.args.state.now in
    let sets = c.args.state.now.closed.items in
    let same : map (λ (z : g.row.C.Denot). places_of n (test z)) c.deref.result.now ≡ s.closed =
    ap (map (λ (z : g.row.C.Denot). places_of n (test z))) c.deref.ensures.value ∙ ap (λ m. map (λ (z : g.row.C.Denot). places_of m (test z)) sets) (sym c.requires.places) in
    (λ e. absurd (false≢true e), λ v. absurd (closed_none p s (subst (λ z. IsSums p z None) same c.in_default.ensures) v))

pub returns-in_default-seat_sums : goal.returns-in_default-seat_sums
returns-in_default-seat_sums g c =
    let test = g.C.CountySet.test in
    let p = problem_at c.args.graph.now.ordered.now in
    let n = length c.args.graph.now.ordered.now.order in
    let s = state_of test c.args.state.now in
    let places = λ (z : g.row.C.Denot). places_of n (test z) in
    (λ e. absurd (false≢true e), λ v. absurd (parts_none p s (map places c.in_ok-parts.parts.items) c.in_ok-parts.ensures.parts (subst (λ z. IsSums p (map places z) None) c.deref-2.ensures.value c.in_default-seat_sums.ensures) v))

pub returns : goal.returns
returns g c =
    let test = g.C.CountySet.test in
    let p = problem_at c.args.graph.now.ordered.now in
    let n = length c.args.graph.now.ordered.now.order in
    let s = state_of test c.args.state.now in
    let sets = c.args.state.now.closed.items in
    let places = λ (z : g.row.C.Denot). places_of n (test z) in
    let closed = c.in-Some.closed in
    let rest = c.in-Some-seat_sums.rest in
    let same : map places c.deref.result.now ≡ s.closed = ap (map places) c.deref.ensures.value ∙ ap (λ m. map (λ (z : g.row.C.Denot). places_of m (test z)) sets) (sym c.requires.places) in
    let first : AreSums p s.closed closed.0 closed.1 = subst (λ z. AreSums p z closed.0 closed.1) same c.in-Some.ensures in
    let second : AreSums p (map places c.in_ok-parts.parts.items) rest.0 rest.1 = subst (λ z. AreSums p (map places z) rest.0 rest.1) c.deref-2.ensures.value c.in-Some-seat_sums.ensures in
    let seats : c.from-seats.result ≡ p.seats_left = c.from-seats.ensures ∙ (c.seats_left.ensures.value ∙ ap (λ (v : ProblemValue). v.seats_left) c.problem.ensures.value) in
    off_by p s (map places c.in_ok-parts.parts.items) closed.0 closed.1 rest.0 rest.1 c.is_outside.result c.in_ok-parts.ensures.parts first second
    (c.is_outside.ensures ∙ ap (λ z. nat_lt z (closed.0 + rest.0) || nat_lt (closed.1 + rest.1) z) seats)

pub parts_of-requires-clause-below : goal.parts_of-requires-clause-below
parts_of-requires-clause-below g c = c.requires.below

pub seat_sums-requires-clause-few : goal.seat_sums-requires-clause-few
seat_sums-requires-clause-few g c = omega (arith, c.requires.few, ap length c.deref.ensures.value)

pub seat_sums-requires-clause-below : goal.seat_sums-requires-clause-below
seat_sums-requires-clause-below g c = subst (λ (z : List g.row.C.Denot). (k : ℕ) (d : g.row.C.Denot) → k < length z → (x : ℕ) → g.C.CountySet.test (get_or z k d) x ≡ true → x < length c.args.graph.now.ordered.now.order) (sym c.deref.ensures.value) c.requires.closed

pub seat_sums-requires-2-clause-few : goal.seat_sums-requires-2-clause-few
seat_sums-requires-2-clause-few g c = omega (arith, ap length c.deref-2.ensures.value, c.in_ok-parts.ensures.few, c.requires.graph.few)

pub seat_sums-requires-2-clause-below : goal.seat_sums-requires-2-clause-below
seat_sums-requires-2-clause-below g c =
    let test = g.C.CountySet.test in
    let inside : (k : ℕ) (d : g.row.C.Denot) → k < length c.deref-2.result.now → (x : ℕ) → test (get_or c.deref-2.result.now k d) x ≡ true → test c.args.state.now.rest x ≡ true =
    subst (λ (z : List g.row.C.Denot). (k : ℕ) (d : g.row.C.Denot) → k < length z → (x : ℕ) → test (get_or z k d) x ≡ true → test c.args.state.now.rest x ≡ true) (sym c.deref-2.ensures.value) c.in_ok-parts.ensures.inside in
    λ k d l x e. c.requires.below x (inside k d l x e)

pub overflow_add-closed : goal.overflow_add-closed
overflow_add-closed g c =
    let f = λ (z : g.row.C.Denot). places_of (length c.args.graph.now.ordered.now.order) (g.C.CountySet.test z) in
    omega (arith, c.in-Some.ensures.small.0, c.in-Some-seat_sums.ensures.small.0, length-map c.deref.result.now f, length-map c.deref-2.result.now f, ap length c.deref.ensures.value, ap length c.deref-2.ensures.value, c.requires.few, c.in_ok-parts.ensures.few, c.requires.graph.few)

pub overflow_add-closed-2 : goal.overflow_add-closed-2
overflow_add-closed-2 g c =
    let f = λ (z : g.row.C.Denot). places_of (length c.args.graph.now.ordered.now.order) (g.C.CountySet.test z) in
    omega (arith, c.in-Some.ensures.small.1, c.in-Some-seat_sums.ensures.small.1, length-map c.deref.result.now f, length-map c.deref-2.result.now f, ap length c.deref.ensures.value, ap length c.deref-2.ensures.value, c.requires.few, c.in_ok-parts.ensures.few, c.requires.graph.few)
