use Rattle.std.proofs.Common.{◌≡◌, ℕ, true, ◌||◌, ◌==◌, sym, ap, ◌∙◌, subst}
use Rattle.std.proofs.lemmas.Bool.{eqb-true}
use Rattle.worked_calls.proofs.states.show_closed.Goals as goal

pub closed_state-requires-clause-group : goal.closed_state-requires-clause-group
closed_state-requires-clause-group g c =
    let test = g.C.CountySet.test in
    let rest = test c.args.state.now.rest in
    let there : rest 0 ≡ true = sym c.has.ensures.test ∙ c.if-has.true in
    let at : (x : ℕ) → test c.in_ok-group.group x ≡ (x == 0) = λ x. c.in_ok-group.ensures.places x ∙ ap (λ z. z || (x == 0)) (c.in_ok-empty.ensures.places x) in
    record { some = (0, at 0); inside = λ x e. subst (λ z. rest z ≡ true) (sym (eqb-true x 0 (sym (at x) ∙ e))) there }
