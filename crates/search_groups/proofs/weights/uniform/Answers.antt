use Rattle.std.proofs.Common.{ℕ, ◌≤◌, List, [], ◌∷◌, All, ap, sym, subst, length, arith}
use Rattle.std.proofs.lemmas.List.{length-append}
use Rattle.std.proofs.lemmas.Result.{IfOk-from_err}
use Rattle.search_groups.proofs.Covered.{one_more}
use Rattle.search_groups.proofs.weights.uniform.Goals as goal
use Rattle.search_groups.proofs.weights.uniform.Goals.{then-has, else-has}

pub returns-in_err-weights-clause-count : goal.returns-in_err-weights-clause-count
returns-in_err-weights-clause-count g c = IfOk-from_err c.from_residual.result _ c.from_residual.ensures.0

pub returns-in_err-weights-clause-range : goal.returns-in_err-weights-clause-range
returns-in_err-weights-clause-range g c = IfOk-from_err c.from_residual.result _ c.from_residual.ensures.0

pub loop-place-init : goal.loop-place-init
loop-place-init g c = record {
  count = ap length c.in_ok-weights.ensures.items;
  range = λ k d l. absurd (omega (arith, l, ap length c.in_ok-weights.ensures.items));
}

pub has-requires : goal.has-requires
has-requires g c = record { fits = omega (arith, c.loop-place-test.true, c.requires.fits) }

pub returns-in_err-push-clause-count : goal.returns-in_err-push-clause-count
returns-in_err-push-clause-count g c = IfOk-from_err c.from_residual-in_err-push.result _ c.from_residual-in_err-push.ensures.0

pub returns-in_err-push-clause-range : goal.returns-in_err-push-clause-range
returns-in_err-push-clause-range g c = IfOk-from_err c.from_residual-in_err-push.result _ c.from_residual-in_err-push.ensures.0

pub loop-place-preserved : goal.loop-place-preserved
loop-place-preserved g c =
    let here = c.if-has.here in
    let old = c.loop-place.weights.items in
    let small : here ≤ 1000000 = elim c.if-has.branch [ then-has w ↦ omega (arith, w.here-is, c.requires.small) | else-has w ↦ omega (arith, w.here-is) ] in
    record {
      count = omega (arith, ap length c.in_ok-push.ensures.items, length-append old (here ∷ []), c.loop-place.invariant.count);
      range = subst (λ (z : List ℕ). All (λ w. w ≤ 1000000) z) (sym c.in_ok-push.ensures.items) (one_more (λ w. w ≤ 1000000) old here c.loop-place.invariant.range small);
    }

pub returns-clause-count : goal.returns-clause-count
returns-clause-count g c = omega (arith, c.loop-place.invariant.count, c.loop-place-test.false, c.loop-place.auto.place-end)

pub returns-clause-range : goal.returns-clause-range
returns-clause-range g c = c.loop-place.invariant.range
