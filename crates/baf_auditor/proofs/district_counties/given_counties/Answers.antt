use Rattle.std.proofs.Common.{◌∙◌, ◌+◌, ◌<◌, ◌||◌, ℕ, List, Bool, ap, drop, map, subst, sym}
use Rattle.std.specs.BTreeSet.{contains}
use Rattle.std.proofs.lemmas.List.Elements.{All-get_or}
use Rattle.baf_auditor.specs.Giving.{by_label}
use Rattle.baf_auditor.specs.Districts.{GivenBlock, shows_county, has_county}
use Rattle.baf_auditor.proofs.GivingLemmas.{or_moved}
use Rattle.baf_auditor.proofs.LoopLemmas.{from_read}
use Rattle.baf_auditor.proofs.district_counties.given_counties.Goals as goal

pub add_county-requires : goal.add_county-requires
add_county-requires c =
    let given = c.args.given.now in
    let item = c.block-item.result in
    subst (λ (e : GivenBlock). e.0.1 < 1000000000000000) (sym (c.block.view_is ∙ c.block-item.is))
    (All-get_or (λ (e : GivenBlock). e.0.1 < 1000000000000000) given c.loop-block.block-index item c.loop-block-test.true c.requires)

pub loop-block-preserved : goal.loop-block-preserved
loop-block-preserved c = λ (key : List ℕ × ℕ).
    let given = c.args.given.now in
    let i = c.loop-block.block-index in
    let item = c.block-item.result in
    let old = contains by_label c.loop-block.found key in
    let rest = has_county (map (λ (e : GivenBlock). e.0) (drop (i + 1) given)) key in
    ap (λ (b : Bool). b || rest) (c.in_ok-add_county.ensures key ∙ ap (λ (e : GivenBlock). shows_county key e.0 || old) c.block.view_is)
    ∙ or_moved (shows_county key item.0) old rest
    ∙ sym (from_read (λ (l : List GivenBlock). old || has_county (map (λ (e : GivenBlock). e.0) l) key) given i item c.loop-block-test.true c.block-item.is)
    ∙ c.loop-block.invariant key
