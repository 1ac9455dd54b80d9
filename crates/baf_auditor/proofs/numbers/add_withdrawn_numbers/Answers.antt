use Rattle.std.proofs.Common.{◌≡◌, ◌∙◌, ◌+◌, ◌++◌, ℕ, List, drop, ap, arith}
use Rattle.std.proofs.lemmas.List.{at_drop_all}
use Rattle.county_codes.specs.declared.withdrawn.Withdrawn.{Withdrawn}
use Rattle.baf_auditor.specs.Findings.{withdrawn_from}
use Rattle.baf_auditor.specs.Districts.{number_finding, districts_at, numbers_from}
use Rattle.baf_auditor.specs.declared.finding.Set.TheVariants as sets
use Rattle.baf_auditor.proofs.LoopLemmas.{step_more, step_done, from_read}
use Rattle.baf_auditor.proofs.numbers.add_withdrawn_numbers.Goals as goal

pub loop-i-preserved : goal.loop-i-preserved
loop-i-preserved c =
    let now = c.loop-i.findings.items in
    let i = c.loop-i.i in
    let ws = c.args.sets.now in
    let keys = c.args.standing.now in
    let place = c.args.groups + i in
    let set = c.index-sets-i.result in
    let next : place + 1 ≡ c.args.groups + (i + 1) = omega arith in
    let text = number_finding (sets.Withdrawn (i + 1)) set.seats (districts_at place keys) in
    step_more now text _
    (c.in_ok-add_number.ensures ∙ ap (λ (n : ℕ). now ++ number_finding (sets.Withdrawn (i + 1)) set.seats n) c.districts_at-districts.ensures)
    (from_read (λ (l : List Withdrawn). numbers_from keys place (withdrawn_from (i + 1) l)) ws i set c.loop-i-test.true c.index-sets-i.is
    ∙ ap (λ (n : ℕ). text ++ numbers_from keys n (withdrawn_from (i + 1 + 1) (drop (i + 1) ws))) next)
    c.loop-i.invariant

pub returns : goal.returns
returns c =
    let i = c.loop-i.i in
    step_done c.loop-i.findings.items (at_drop_all (λ (l : List Withdrawn). numbers_from c.args.standing.now (c.args.groups + i) (withdrawn_from (i + 1) l)) c.args.sets.now i c.loop-i-test.false) c.loop-i.invariant
