use Rattle.std.proofs.Common.{List, ℕ, All, ◌≤◌, subst, arith, take_all}
use Rattle.std.proofs.lemmas.Grind.{common_steps}
use Rattle.std.proofs.lemmas.List.Elements.{All-more}
use Rattle.county_codes.proofs.writing.push_codes.Goals as goal

pub loop-code-preserved : goal.loop-code-preserved
loop-code-preserved c = record {
  text = grind (arith, common_steps);
  small =
      let code : c.code-item.result ≤ 99999 = omega (arith, c.get.ensures.small, c.get.ensures.value) in
      All-more (λ (x : ℕ). x ≤ 99999) c.args.codes.now c.loop-code.code-index c.code-item.result c.loop-code-test.true c.loop-code.invariant.small
      (subst (λ (x : ℕ). x ≤ 99999) c.code-item.is code);
}

pub returns-clause-small : goal.returns-clause-small
returns-clause-small c =
    subst (λ (l : List ℕ). All (λ (x : ℕ). x ≤ 99999) l) (take_all c.loop-code.code-index c.args.codes.now (omega arith)) c.loop-code.invariant.small
