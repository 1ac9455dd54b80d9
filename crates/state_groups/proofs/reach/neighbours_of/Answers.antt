use Rattle.std.proofs.Common.{◌≡◌, ℕ, ◌<◌, ◌≤◌, true, sym, subst, ◌∙◌, length, arith, inl, inr}
use Rattle.std.specs.Prelude.{◌⊎◌}
use Rattle.std.proofs.lemmas.Bool.{false≢true, cases_lt}
use Rattle.county_problem.specs.OrderedValue.{problem_at}
use Rattle.connected_sets.proofs.RowLemmas.{row_named}
use Rattle.state_groups.proofs.Moves.{first_from}
use Rattle.state_groups.proofs.reach.neighbours_of.Goals as goal

pub loop-place-preserved : goal.loop-place-preserved
loop-place-preserved g c =
    let test = g.C.CountySet.test in
    let p = problem_at c.args.graph.now.ordered.now in
    let n = length c.args.graph.now.ordered.now.order in
    let set = test c.args.set.now in
    let place = c.in-Some.place in
    let inv = c.loop-place.invariant in
    let near = c.index.result.now in
    let found = test c.loop-place.found in
    let row = row_named g.row.C.Denot test p n c.args.graph.now.near.items c.requires.graph.rows place c.from.result near c.from.ensures c.index.ensures (c.requires.below place c.in-Some.ensures.least.1) in
    record {
      within = omega (arith, c.in-Some.ensures.fits, c.from-from.ensures);
      all = λ x y e l m touch. c.in_ok-found-2.ensures.places y ∙ first_from p set found (test near) c.loop-place.from place x y
          (λ k. inv.all x y e k m touch) (λ k. row y m ∙ (subst (λ z. p.adjacent z y ≡ true) k touch)) c.in-Some.ensures.least.2 e (omega (arith, l));
    }

pub returns : goal.returns
returns g c = λ x y e m touch. c.loop-place.invariant.all x y e (before x e (cases_lt x c.loop-place.from)) m touch
  where
    before : (x : ℕ) → g.C.CountySet.test c.args.set.now x ≡ true → (x < c.loop-place.from) ⊎ (c.loop-place.from ≤ x) → x < c.loop-place.from
    before x e (inl l) = l
    before x e (inr l) = absurd (false≢true (sym (c.in_default.ensures.least x l) ∙ e))
