use Rattle.std.proofs.Common.{ℕ, ◌+◌, ◌≤◌, get_or, filter, take, drop, sym, ap, ◌∙◌, arith}
use Rattle.std.proofs.lemmas.List.{get_or_default}
use Rattle.grouping_laws.specs.Sets.{sum_by}
use Rattle.state_groups.proofs.PeopleBounds.{row_taken, row_left}
use Rattle.state_groups.proofs.people.first_people.Goals as goal
use Rattle.state_groups.proofs.people.first_people.Goals.{then-has, else-has}

pub loop-row-preserved : goal.loop-row-preserved
loop-row-preserved g c =
    let q = λ (r : ℕ × ℕ). g.C.CountySet.test c.args.set.now r.1 in
    let rows = c.args.places.now in
    let i = c.loop-row.row-index in
    let r = get_or rows i (0, 0) in
    let same = get_or_default rows i (0, 0) r c.loop-row-test.true in
    let all = sum_by (λ (x : ℕ × ℕ). x.0) (take c.args.count (filter q rows)) in
    let rest = filter q (drop (i + 1) rows) in
    let some : 1 ≤ c.loop-row.left = omega (arith, c.if-left-eq0.false) in
    elim c.if-has.branch [
      | then-has w ↦
          let step = row_taken q rows i r c.loop-row.people c.loop-row.left all some c.loop-row-test.true same c.loop-row.invariant.sum (sym c.has.ensures.test ∙ w.if-has.true) in
          record {
            sum = omega (arith, step, w.people-is, w.from-people.ensures, ap (λ k. sum_by (λ (x : ℕ × ℕ). x.0) (take k rest)) w.left-is);
            small = omega (arith, c.loop-row.invariant.small, w.people-is, w.from-people.ensures);
          }
      | else-has w ↦
          let step = row_left q rows i r c.loop-row.people c.loop-row.left all some c.loop-row-test.true same c.loop-row.invariant.sum (sym c.has.ensures.test ∙ w.if-has.false) in
          record {
            sum = omega (arith, step, w.people-is, ap (λ k. sum_by (λ (x : ℕ × ℕ). x.0) (take k rest)) w.left-is);
            small = omega (arith, c.loop-row.invariant.small, w.people-is);
          }
    ]
