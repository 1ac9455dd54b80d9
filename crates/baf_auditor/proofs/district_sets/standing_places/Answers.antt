use Rattle.std.proofs.Common.{◌∙◌, ◌+◌, ◌<◌, ℕ, List, Option, ap, arith, drop, map, subst, sym}
use Rattle.std.specs.BTreeMap.{get}
use Rattle.std.proofs.lemmas.List.Elements.{All-get_or}
use Rattle.baf_auditor.specs.Findings.{drawn_sets}
use Rattle.baf_auditor.specs.Giving.{by_label}
use Rattle.baf_auditor.specs.Districts.{GivenBlock, after_shown, stands_after}
use Rattle.baf_auditor.proofs.LoopLemmas.{from_read}
use Rattle.baf_auditor.proofs.district_sets.standing_places.Goals as goal

pub add_standing-requires-clause-fits : goal.add_standing-requires-clause-fits
add_standing-requires-clause-fits c =
    let given = c.args.given.now in
    let item = c.block-item.result in
    subst (λ (e : GivenBlock). e.0.1 < 1000000000000000) (sym (c.block.view_is ∙ c.block-item.is))
    (All-get_or (λ (e : GivenBlock). e.0.1 < 1000000000000000) given c.loop-block.block-index item c.loop-block-test.true c.requires)

pub loop-block-preserved : goal.loop-block-preserved
loop-block-preserved c =
    let drawn = drawn_sets c.args.problem.now c.args.grouping.now.groups.items in
    let given = c.args.given.now in
    let i = c.loop-block.block-index in
    let old = c.loop-block.found in
    record {
      standing = λ (key : List ℕ × ℕ).
          ap (λ (o : Option (Unit {0})). stands_after drawn key o (map (λ (e : GivenBlock). e.0) (drop (i + 1) given)))
          (c.in_ok-add_standing.ensures.entries key ∙ ap (λ (e : GivenBlock). after_shown drawn key (get by_label old key) e.0) c.block.view_is)
          ∙ sym (from_read (λ (l : List GivenBlock). stands_after drawn key (get by_label old key) (map (λ (e : GivenBlock). e.0) l)) given i c.block-item.result c.loop-block-test.true c.block-item.is)
          ∙ c.loop-block.invariant.standing key;
      few = omega (arith, c.loop-block.invariant.few, c.in_ok-add_standing.ensures.few);
      known = c.add_standing.ensures.known;
      bound = c.add_standing.ensures.bound;
      within = c.in_ok-add_standing.ensures.within c.loop-block.invariant.within;
    }
