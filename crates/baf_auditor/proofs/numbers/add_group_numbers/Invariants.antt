use Rattle.std.proofs.Common.{◌≡◌, ◌++◌, ◌+◌, drop}
use Rattle.baf_auditor.specs.Findings.{groups_from}
use Rattle.baf_auditor.specs.Districts.{numbers_from}
use Rattle.baf_auditor.proofs.numbers.add_group_numbers.Given as goal

abbrev pub invariant-loop-i : goal.invariant-loop-i
invariant-loop-i l = l.findings.items ++ numbers_from l.standing l.i (groups_from (l.i + 1) (drop l.i l.groups)) ≡ l.fn.findings.items ++ numbers_from l.standing 0 (groups_from 1 l.groups)
