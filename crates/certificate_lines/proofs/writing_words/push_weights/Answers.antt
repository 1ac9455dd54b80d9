use Rattle.std.proofs.Common.{List, All, ◌≤◌, subst, arith, take_all}
use Rattle.std.proofs.lemmas.Grind.{common_steps}
use Rattle.std.proofs.lemmas.List.Elements.{All-more}
use Rattle.certificate_data.specs.declared.weights.Weight.{Weight}
use Rattle.certificate_lines.proofs.writing_words.push_weights.Goals as goal

pub loop-weight-preserved : goal.loop-weight-preserved
loop-weight-preserved c = record {
  text = grind (arith, common_steps);
  small =
      All-more (λ (w : Weight). w.county ≤ 99999) c.args.weights.now c.loop-weight.weight-index c.weight-item.result c.loop-weight-test.true c.loop-weight.invariant.small
      (subst (λ (w : Weight). w.county ≤ 99999) c.weight-item.is c.in_ok-push_code.ensures.small);
  numbers =
      All-more (λ (w : Weight). w.weight ≤ 4294967295) c.args.weights.now c.loop-weight.weight-index c.weight-item.result c.loop-weight-test.true c.loop-weight.invariant.numbers
      (subst (λ (w : Weight). w.weight ≤ 4294967295) c.weight-item.is (omega arith));
}

pub returns-clause-small : goal.returns-clause-small
returns-clause-small c =
    subst (λ (l : List Weight). All (λ (w : Weight). w.county ≤ 99999) l) (take_all c.loop-weight.weight-index c.args.weights.now (omega arith)) c.loop-weight.invariant.small

pub returns-clause-numbers : goal.returns-clause-numbers
returns-clause-numbers c =
    subst (λ (l : List Weight). All (λ (w : Weight). w.weight ≤ 4294967295) l) (take_all c.loop-weight.weight-index c.args.weights.now (omega arith)) c.loop-weight.invariant.numbers
