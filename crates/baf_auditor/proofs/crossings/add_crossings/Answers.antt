use Rattle.std.proofs.Common.{◌∙◌, ◌+◌, ◌-◌, ◌≤◌, ◌++◌, ℕ, List, length, drop, take_all, length-drop, ap, arith}
use Rattle.std.proofs.lemmas.List.{at_drop_all}
use Rattle.baf_auditor.specs.Districts.{crossings_with, crossings}
use Rattle.baf_auditor.proofs.LoopLemmas.{step_more, step_done, from_read}
use Rattle.baf_auditor.proofs.crossings.add_crossings.Goals as goal

pub loop-i-preserved : goal.loop-i-preserved
loop-i-preserved c =
    let now = c.loop-i.findings.items in
    let i = c.loop-i.i in
    let ks = c.args.standing.now in
    let key = c.index-standing-i.result in
    let rest = drop (i + 1) ks in
    let short : length rest ≤ length ks - (i + 1) = omega (arith, length-drop (i + 1) ks) in
    step_more now (crossings_with c.args.groups key rest) (crossings c.args.groups rest)
    (c.in_ok-add_crossings_with.ensures ∙ ap (λ (l : List (List ℕ × ℕ)). now ++ crossings_with c.args.groups key l) (take_all (length ks - (i + 1)) rest short))
    (from_read (crossings c.args.groups) ks i key c.loop-i-test.true c.index-standing-i.is)
    c.loop-i.invariant

pub returns : goal.returns
returns c = step_done c.loop-i.findings.items (at_drop_all (crossings c.args.groups) c.args.standing.now c.loop-i.i c.loop-i-test.false) c.loop-i.invariant
