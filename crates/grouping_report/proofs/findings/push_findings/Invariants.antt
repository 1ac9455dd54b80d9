use Rattle.std.proofs.Common.{◌≡◌, ◌++◌, drop, codes}
use Rattle.std.specs.List.{flat_map}
use Rattle.grouping_report.specs.FindingsText.{finding_words, findings_text}
use Rattle.grouping_report.proofs.findings.push_findings.Given as goal

abbrev pub invariant-loop-finding : goal.invariant-loop-finding
invariant-loop-finding l = l.out.items ++ flat_map (λ f. finding_words f ++ codes "\n") (drop l.finding-index l.findings) ≡ l.fn.out.items ++ findings_text l.findings
