use Rattle.std.proofs.Common.{◌≡◌, ◌++◌, drop, map}
use Rattle.baf_auditor.specs.Kinds.{code_finding}
use Rattle.baf_auditor.proofs.block_findings.add_codes.Given as goal

abbrev pub invariant-loop-code : goal.invariant-loop-code
invariant-loop-code l = l.findings.items ++ map (code_finding l.kind) (drop l.code-index l.codes) ≡ l.fn.findings.items ++ map (code_finding l.kind) l.codes
