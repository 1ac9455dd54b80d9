use Rattle.std.proofs.Common.{◌≡◌, ◌++◌, drop}
use Rattle.baf_auditor.specs.Districts.{crossings_with}
use Rattle.baf_auditor.proofs.crossings.add_crossings_with.Given as goal

abbrev pub invariant-loop-key : goal.invariant-loop-key
invariant-loop-key l = l.findings.items ++ crossings_with l.groups l.first (drop l.key-index l.rest) ≡ l.fn.findings.items ++ crossings_with l.groups l.first l.rest
