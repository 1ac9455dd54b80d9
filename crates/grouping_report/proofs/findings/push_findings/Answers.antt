use Rattle.std.proofs.Common.{◌∙◌, ◌++◌, ℕ, List, ap, append_assoc, codes}
use Rattle.std.specs.List.{flat_map}
use Rattle.std.proofs.lemmas.List.{at_drop_all}
use Rattle.baf_auditor.specs.declared.finding.Finding.{Finding}
use Rattle.grouping_report.specs.FindingsText.{finding_words}
use Rattle.grouping_report.proofs.Appends.{first, after, step_more, step_done, from_read}
use Rattle.grouping_report.proofs.findings.push_findings.Goals as goal

pub loop-finding-init : goal.loop-finding-init
loop-finding-init c =
    let head = after _ (first c.args.out.now.items _ c.in_ok-push_words_number.ensures) c.in_ok-extend_from_slice.ensures.items in
    let lines = flat_map (λ (f : Finding). finding_words f ++ codes "\n") c.args.findings.now in
    ap (λ (l : List ℕ). l ++ lines) head.is ∙ append_assoc c.args.out.now.items _ lines

pub loop-finding-preserved : goal.loop-finding-preserved
loop-finding-preserved c =
    let now = c.loop-finding.out.items in
    let line = after _ (first now _ c.in_ok-push_finding.ensures) c.in_ok-extend_from_slice-2.ensures.items in
    step_more now _ _ line.is
    (from_read (flat_map (λ (f : Finding). finding_words f ++ codes "\n")) c.args.findings.now c.loop-finding.finding-index c.finding-item.result c.loop-finding-test.true c.finding-item.is)
    c.loop-finding.invariant

pub returns : goal.returns
returns c =
    step_done c.loop-finding.out.items (at_drop_all (flat_map (λ (f : Finding). finding_words f ++ codes "\n")) c.args.findings.now c.loop-finding.finding-index c.loop-finding-test.false) c.loop-finding.invariant
