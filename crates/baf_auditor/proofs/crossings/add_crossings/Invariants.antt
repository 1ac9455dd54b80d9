use Rattle.std.proofs.Common.{◌≡◌, ◌++◌, drop}
use Rattle.baf_auditor.specs.Districts.{crossings}
use Rattle.baf_auditor.proofs.crossings.add_crossings.Given as goal

abbrev pub invariant-loop-i : goal.invariant-loop-i
invariant-loop-i l = l.findings.items ++ crossings l.groups (drop l.i l.standing) ≡ l.fn.findings.items ++ crossings l.groups l.standing
