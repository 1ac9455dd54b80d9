use Rattle.std.proofs.Common.{◌∙◌, ◌&&◌, ℕ, not, ap, sym, subst, length}
use Rattle.std.specs.Prelude.{IsTrue}
use Rattle.county_problem.specs.OrderedValue.{problem_at}
use Rattle.certificate_data.specs.declared.format.Format.{Format}
use Rattle.state_groups.specs.StateValue.{state_of}
use Rattle.state_groups.specs.Stranding.{NoneFits, StrandedPart}
use Rattle.state_groups.proofs.FitLemmas.{if_ok, below_listed}
use Rattle.state_groups.proofs.StrandLemmas.{stranded}
use Rattle.state_groups.proofs.stranding.strands.Goals as goal

pub returns-in_ok-changed-in-Wide : goal.returns-in_ok-changed-in-Wide
returns-in_ok-changed-in-Wide g c =
    let test = g.C.CountySet.test in
    let p = problem_at c.args.graph.now.ordered.now in
    let n = length c.args.graph.now.ordered.now.order in
    let s = state_of test c.args.state.now in
    let set = test c.args.growth.now.set in
    let free = test c.args.growth.now.free in
    let left = test c.minus-left.result in
    if_ok c.has_stranded_part.result (λ found. IsTrue found → StrandedPart p s left free) (λ none. IsTrue none → (limit : ℕ) → NoneFits c.args.format p n limit s set free)
    (λ b h e limit. subst (λ (l : Format). NoneFits l p n limit s set free) (sym c.in-Wide.is) (stranded p s n limit set left free (λ x. c.minus-left.ensures.places x ∙ ap (λ z. z && not (set x)) (c.in_ok-copy-in-Wide.ensures.places x)) c.requires.graph.rows.problem (λ x r. below_listed n x (c.requires.below x r)) (h e)))
    c.has_stranded_part.ensures
