use Rattle.std.proofs.Common.{◌≡◌, ◌≤◌, ◌+◌, drop}
use Rattle.baf_auditor.specs.Districts.{districts_at}
use Rattle.baf_auditor.proofs.numbers.districts_at.Given as goal

abbrev pub invariant-loop-key : goal.invariant-loop-key
invariant-loop-key l = record {
  counted : l.districts + districts_at l.place (drop l.key-index l.standing) ≡ districts_at l.place l.standing;
  few : l.districts ≤ l.key-index;
}
