use Rattle.std.proofs.Common.{◌≡◌, ℕ, get_or, sym, ap, ◌∙◌, arith, ⊎_elim}
use Rattle.std.proofs.lemmas.Bool.{false≢true, cases_lt}
use Rattle.std.proofs.lemmas.List.{get_or_default}
use Rattle.state_groups.proofs.windows.may_divide.Goals as goal

pub loop-window-preserved : goal.loop-window-preserved
loop-window-preserved c =
    let windows = c.args.windows.now in
    let i = c.loop-window.window-index in
    λ k d l people least greatest low high left.
    ⊎_elim
    (λ j. c.loop-window.invariant k d j people least greatest low high left)
    (λ j.
    let e : k ≡ i = omega (arith, l, j) in
    let same = ap (λ z. get_or windows z d) e ∙ get_or_default windows i d (0, 0) c.loop-window-test.true in
    let low_same = ap (λ (z : ℕ × ℕ). z.0) same in
    let high_same = ap (λ (z : ℕ × ℕ). z.1) same in
    false≢true (sym c.if-divides.false ∙ c.divides.ensures people least greatest (omega (arith, low, low_same)) (omega (arith, high, high_same)) left))
    (cases_lt k i)

pub returns : goal.returns
returns c = λ people least greatest has left.
    let low_same = ap (λ (z : ℕ × ℕ). z.0) has.1.2 in
    let high_same = ap (λ (z : ℕ × ℕ). z.1) has.1.2 in
    absurd (c.loop-window.invariant has.1.0 has.0 (omega (arith, has.1.1, c.loop-window-test.false)) people least greatest (omega (arith, has.2, low_same)) (omega (arith, has.3, high_same)) left)
