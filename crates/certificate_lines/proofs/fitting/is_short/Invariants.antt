use Rattle.std.proofs.Common.{◌≡◌, ◌+◌, ◌≤◌, length, drop}
use Rattle.certificate_lines.proofs.FittingLaws.{weigh_bytes, words_length}
use Rattle.certificate_lines.proofs.fitting.is_short.Given as goal

abbrev pub invariant-loop-weight : goal.invariant-loop-weight
invariant-loop-weight l = record {
  same : l.length + words_length (drop l.weight-index l.weights) ≡ length (weigh_bytes l.quota l.weights);
  small : l.length ≤ 65563;
}
