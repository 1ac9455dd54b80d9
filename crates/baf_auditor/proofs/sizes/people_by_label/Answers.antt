use Rattle.std.proofs.Common.{◌∙◌, ◌+◌, ℕ, List, Option, ap, drop, sym}
use Rattle.std.specs.Ordering.{nat_cmp}
use Rattle.std.specs.Cmp.Lexicographic.{slice_cmp}
use Rattle.std.specs.BTreeMap.{get}
use Rattle.baf_auditor.specs.Districts.{GivenBlock, with_people, people_after}
use Rattle.baf_auditor.proofs.GivingLemmas.{more_people}
use Rattle.baf_auditor.proofs.LoopLemmas.{from_read}
use Rattle.baf_auditor.proofs.sizes.people_by_label.Goals as goal

pub loop-block-preserved : goal.loop-block-preserved
loop-block-preserved c =
    let given = c.args.given.now in
    let i = c.loop-block.block-index in
    let old = c.loop-block.sums in
    record {
      people = λ (label : List ℕ).
          ap (λ (o : Option ℕ). people_after label o (drop (i + 1) given))
          (c.in_ok-add_people.ensures label ∙ ap (λ (e : GivenBlock). with_people label e.0.0 e.1 (get (slice_cmp nat_cmp) old label)) c.block.view_is)
          ∙ sym (from_read (people_after label (get (slice_cmp nat_cmp) old label)) given i c.block-item.result c.loop-block-test.true c.block-item.is)
          ∙ c.loop-block.invariant.people label;
      few = λ (label : List ℕ). more_people label c.block.inside.assignment.now.label c.block.inside.people i (get (slice_cmp nat_cmp) old label) _ c.block.invariant (c.loop-block.invariant.few label) (c.in_ok-add_people.ensures label);
    }
