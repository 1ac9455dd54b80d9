use Rattle.std.proofs.Common.{◌≡◌, map, take}
use Rattle.state_judge.specs.Weights.{county_weight}
use Rattle.state_judge.proofs.weights.weights_at.Given as goal

abbrev pub invariant-loop-code : goal.invariant-loop-code
invariant-loop-code l = l.table.items ≡ map (county_weight l.weights) (take l.code-index l.codes)
