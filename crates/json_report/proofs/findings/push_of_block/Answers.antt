use Rattle.std.proofs.Common.{◌≡◌, ◌∙◌, ◌++◌, ℕ, List, ap}
use Rattle.grouping_report.specs.FindingsText.{fifteen_digits}
use Rattle.json_report.specs.Parts.{if_utf8}
use Rattle.json_report.proofs.Adding.{part, last}
use Rattle.json_report.proofs.TextLemmas.{text_of_block}
use Rattle.json_report.proofs.findings.push_of_block.Goals as goal

pub returns : goal.returns
returns c =
    let digits = fifteen_digits c.args.block in
    let is : c.deref.result.now ≡ digits =
    c.deref.ensures.value ∙ c.in_ok-push_block.ensures
    ∙ ap (λ (l : List ℕ). l ++ digits) c.new-digits.ensures.items in
    let text : if_utf8 c.deref.result.now ≡ digits = ap if_utf8 is ∙ text_of_block c.args.block in
    rw (← text) (part _ c.in_ok-push_kind.ensures (last _ _ c.push_bytes.ensures)).adds
