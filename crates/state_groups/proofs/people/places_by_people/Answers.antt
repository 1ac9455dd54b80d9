use Rattle.std.proofs.Common.{◌≡◌, ℕ, sym, ap, ◌∙◌, length, arith, rules}
use Rattle.std.proofs.lemmas.List.Sorted.{IsNonDecreasingBy-from_sort_by_key}
use Rattle.county_problem.specs.OrderedValue.{problem_at}
use Rattle.state_groups.proofs.PeopleRows.{row_pushed, row_skipped, sorted_rows}
use Rattle.state_groups.proofs.people.places_by_people.Goals as goal
use Rattle.state_groups.proofs.people.places_by_people.Goals.{then-has+in_ok-push, else-has}

pub loop-place-preserved : goal.loop-place-preserved
loop-place-preserved g c =
    let p = problem_at c.args.ordered.now in
    let t = g.C.CountySet.test c.args.set.now in
    let i = c.loop-place.place in
    elim c.if-has.branch [
      | then-has+in_ok-push w ↦ row_pushed p t i c.loop-place.places.items c.if-has.places.items w.people.result c.loop-place.invariant (sym c.has.ensures.test ∙ w.if-has.true) w.people.ensures (ap (λ v. v.items) w.places-is ∙ w.in_ok-push.ensures.items)
      | else-has w ↦ row_skipped p t i c.loop-place.places.items c.if-has.places.items c.loop-place.invariant (sym c.has.ensures.test ∙ w.if-has.false) (ap (λ v. v.items) w.places-is)
    ]

pub returns : goal.returns
returns g c =
    let p = problem_at c.args.ordered.now in
    let n = length c.args.ordered.now.order in
    let t = g.C.CountySet.test c.args.set.now in
    let end : c.loop-place.place ≡ n = omega (arith, c.loop-place-test.false, c.loop-place.auto.place-end, c.places-place-end.ensures.value) in
    sorted_rows p n c.loop-place.place t c.loop-place.places.items c.sort_by_key.new.self.items c.loop-place.invariant end c.requires.below (omega (arith, c.places-place-end.ensures.value, c.places-place-end.ensures.few)) c.in_ok-sort_by_key.ensures.permutation
    (IsNonDecreasingBy-from_sort_by_key (λ (r : ℕ × ℕ). r.0) _ c.in_ok-sort_by_key.ensures.sorted (λ a r q k. search rules))
