use Rattle.std.proofs.Common.{◌≡◌, ◌++◌, drop}
use Rattle.json_report.specs.FindingsObject.{finding_objects}
use Rattle.json_report.proofs.findings.push_objects.Given as goal

abbrev pub invariant-loop-finding : goal.invariant-loop-finding
invariant-loop-finding l = record {
  before : l.out.before ≡ l.fn.out.before;
  so_far : l.out.tokens ++ finding_objects (drop l.finding-index l.findings)
      ≡ l.fn.out.tokens ++ finding_objects l.findings;
}
