use Rattle.std.proofs.Common.{sym, ◌∙◌}
use Rattle.state_judge.proofs.CountyWeights.{first_weight}
use Rattle.state_judge.proofs.weights.weight_at.Goals as goal

pub returns-then-eq : goal.returns-then-eq
returns-then-eq c = first_weight c.loop-weights.weights.now c.first-item.result _ c.args.code c.in-len1-up.len_at_least c.first-item.is c.loop-weights.invariant.rising (sym c.eq.ensures ∙ c.if-eq.true) ∙ c.loop-weights.invariant.same
