use Rattle.std.proofs.Common.{sym, ◌∙◌, ⊎_elim}
use Rattle.std.proofs.lemmas.Bool.{false≢true, cases_lt}
use Rattle.search_groups.proofs.stuck_counties.stuck_place.Goals as goal

pub returns : goal.returns
returns g c = λ i v.
    let here = v.is_part.inside i v.around in
    ⊎_elim (λ l. c.loop-place.invariant.none i l v) (λ l. false≢true (sym (c.in_default.ensures.least i l) ∙ here)) (cases_lt i c.loop-place.from)

pub returns-then-branch : goal.returns-then-branch
returns-then-branch g c = (c.in-Some.ensures.least.1, c.in_ok-is_stuck_at.ensures.0 c.if-branch.true)
