use Rattle.std.proofs.Common.{◌≡◌, true, length}
use Rattle.certificate_lines.specs.Lines.{ascend}
use Rattle.state_judge.specs.Weights.{county_weight}
use Rattle.list_groupings.proofs.position.weight_of.Given as goal

abbrev pub invariant-loop-weights : goal.invariant-loop-weights
invariant-loop-weights l = record {
  same : county_weight l.weights l.code ≡ county_weight l.fn.weights l.code;
  rising : ascend l.weights ≡ true;
}

abbrev pub decreases-loop-weights : goal.decreases-loop-weights
decreases-loop-weights l = length l.weights
