use Rattle.std.proofs.Common.{◌≡◌, ◌++◌, ◌+◌, drop}
use Rattle.baf_auditor.specs.Findings.{withdrawn_from}
use Rattle.baf_auditor.specs.Districts.{numbers_from}
use Rattle.baf_auditor.proofs.numbers.add_withdrawn_numbers.Given as goal

abbrev pub invariant-loop-i : goal.invariant-loop-i
invariant-loop-i l = l.findings.items ++ numbers_from l.standing (l.groups + l.i) (withdrawn_from (l.i + 1) (drop l.i l.sets)) ≡ l.fn.findings.items ++ numbers_from l.standing l.groups (withdrawn_from 1 l.sets)
