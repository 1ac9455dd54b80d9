use Rattle.std.proofs.Common.{◌≡◌, ◌∙◌, ◌++◌, ℕ, List, ap}
use Rattle.grouping_report.specs.FaultWords.{grouping_fault_words}
use Rattle.json_report.proofs.Adding.{part, last}
use Rattle.json_report.proofs.findings.push_fault.Goals as goal

pub returns : goal.returns
returns c =
    let words = grouping_fault_words c.args.fault in
    let is : c.deref.result.now ≡ words =
    c.deref.ensures.value ∙ c.in_ok-push_grouping_fault.ensures
    ∙ ap (λ (l : List ℕ). l ++ words) c.new-words.ensures.items in
    rw (← is) (part _ c.in_ok-push_kind.ensures (last _ _ c.push_bytes.ensures)).adds
