use Rattle.std.proofs.Common.{◌∙◌, ◌+◌, ◌++◌, ℕ, List, ap}
use Rattle.std.proofs.lemmas.List.{at_drop_all}
use Rattle.county_codes.specs.declared.group.Group.{Group}
use Rattle.baf_auditor.specs.Findings.{groups_from}
use Rattle.baf_auditor.specs.Districts.{number_finding, numbers_from}
use Rattle.baf_auditor.specs.declared.finding.Set.TheVariants as sets
use Rattle.baf_auditor.proofs.LoopLemmas.{step_more, step_done, from_read}
use Rattle.baf_auditor.proofs.numbers.add_group_numbers.Goals as goal

pub loop-i-preserved : goal.loop-i-preserved
loop-i-preserved c =
    let now = c.loop-i.findings.items in
    let i = c.loop-i.i in
    let group = c.index-groups-i.result in
    step_more now _ _
    (c.in_ok-add_number.ensures ∙ ap (λ (n : ℕ). now ++ number_finding (sets.Group (i + 1)) group.seats n) c.districts_at-districts.ensures)
    (from_read (λ (l : List Group). numbers_from c.args.standing.now i (groups_from (i + 1) l)) c.args.groups.now i group c.loop-i-test.true c.index-groups-i.is)
    c.loop-i.invariant

pub returns : goal.returns
returns c =
    let i = c.loop-i.i in
    step_done c.loop-i.findings.items (at_drop_all (λ (l : List Group). numbers_from c.args.standing.now i (groups_from (i + 1) l)) c.args.groups.now i c.loop-i-test.false) c.loop-i.invariant
