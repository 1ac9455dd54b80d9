use Rattle.std.proofs.Common.{◌≡◌, ◌+◌, ◌++◌, ◌∷◌, [], drop, get_or, map, subst}
use Rattle.std.proofs.lemmas.List.{at_drop_more, at_drop_all}
use Rattle.baf_auditor.specs.Kinds.{code_finding}
use Rattle.baf_auditor.specs.declared.finding.Finding.{Finding}
use Rattle.baf_auditor.proofs.LoopLemmas.{step_more, step_done}
use Rattle.baf_auditor.proofs.block_findings.add_codes.Goals as goal

pub loop-code-preserved : goal.loop-code-preserved
loop-code-preserved c =
    let now = c.loop-code.findings.items in
    let i = c.loop-code.code-index in
    let found = code_finding c.args.kind in
    step_more now (found (get_or c.args.codes.now i 0) ∷ []) (map found (drop (i + 1) c.args.codes.now))
    (subst (λ (f : Finding). c.push.new.self.items ≡ now ++ f ∷ []) c.finding.ensures c.in_ok-push.ensures.items)
    (at_drop_more (map found) c.args.codes.now i 0 c.loop-code-test.true)
    c.loop-code.invariant

pub returns : goal.returns
returns c = step_done c.loop-code.findings.items (at_drop_all (map (code_finding c.args.kind)) c.args.codes.now c.loop-code.code-index c.loop-code-test.false) c.loop-code.invariant
