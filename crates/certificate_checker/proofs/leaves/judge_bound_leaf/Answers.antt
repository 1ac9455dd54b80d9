use Rattle.std.proofs.Common.{◌+◌, refl, sym, ◌∙◌, subst, arith}
use Rattle.std.proofs.lemmas.Bool.{eqb-true, eq-eqb, false≢true}
use Rattle.grouping_laws.specs.Grouping.{counts, sets_of}
use Rattle.certificate_data.specs.RoundValue.{round_of, target_of}
use Rattle.checker_laws.specs.Fault as fault
use Rattle.certificate_checker.specs.Judging.{IsSmall}
use Rattle.certificate_checker.proofs.Reaching.{fed_twice, counts_on}
use Rattle.certificate_checker.proofs.BoundLoop.{even_judged, loss_judged, stop_judged, all_judged, no_target, with_target, too_many, wanted_same}
use Rattle.certificate_checker.proofs.leaves.judge_bound_leaf.Goals as goal

pub returns-in_default-clause-judged : goal.returns-in_default-clause-judged
returns-in_default-clause-judged g c all sees lines rest spelled count items =
    (fault.BoundWithoutTarget, refl, no_target (target_of c.args.input.now.round.now.target) c.args.input.now.wanted lines _ (round_of c.args.input.now.round.now) _ c.args.feed.now.line c.requires.input.wanted c.in_default.is)

pub returns-then-count-input-clause-judged : goal.returns-then-count-input-clause-judged
returns-then-count-input-clause-judged g c all sees lines rest spelled count items =
    with_target _ (target_of c.args.input.now.round.now.target) c.args.input.now.wanted c.in-Some.wanted c.requires.input.wanted c.in-Some.is
    (λ target is same. (fault.BoundLength, refl, too_many (target_of c.args.input.now.round.now.target) target lines _ (round_of c.args.input.now.round.now) _ c.args.feed.now.line is (omega (arith, count, c.if-count-input.true))))

pub judging-preserved : goal.judging-preserved
judging-preserved g c = record {
  counts = counts_on c.args.feed.now c.judging.feed c.judge_line.new.feed c.judging.invariant.counts c.in-Ok-Even.ensures.counts;
  fed = λ all sees.
      let n = c.in-Ok-Even.ensures.fed all sees in
      let i = c.judging.invariant.fed all n.0 in
      (i.0, fed_twice _ _ _ i.1 n.1);
  known = c.in-Ok-Even.ensures.known;
  lists = c.in-Ok-Even.ensures.lists;
  used = subst IsSmall c.in-Ok-Even.field-0-is c.in-Ok-Even.ensures.small;
  left = λ all sees lines rest target spelled count items is.
      let n = c.in-Ok-Even.ensures.fed all sees in
      let h = c.judging.invariant.left all n.0 lines rest target spelled count items is in
      let same = wanted_same (target_of c.args.input.now.round.now.target) c.args.input.now.wanted c.in-Some.wanted target c.requires.input.wanted c.in-Some.is is (c.judging.before + 1) in
      even_judged _ _ _ target _ _ _ lines rest c.judging.before c.judging.used c.in-Ok-Even.now h c.in-Ok-Even.field-0 c.in-Ok-Even.field-0-is (omega (arith, count, c.judging-test.true))
      (c.in-Ok-Even.ensures.judged all sees (counts (sets_of target)) h.left rest (sym same ∙ sym c.of.ensures) h.spelled h.items);
}

pub returns-in-Ok-Loss-clause-judged : goal.returns-in-Ok-Loss-clause-judged
returns-in-Ok-Loss-clause-judged g c all sees lines rest spelled count items =
    let n = c.in-Ok-Loss.ensures.fed all sees in
    with_target _ (target_of c.args.input.now.round.now.target) c.args.input.now.wanted c.in-Some.wanted c.requires.input.wanted c.in-Some.is
    (λ target is same.
    let h = c.judging.invariant.left all n.0 lines rest target spelled count items is in
    loss_judged _ _ _ target _ _ _ lines rest c.judging.before c.judging.used h _ c.loss_at.result c.in-Ok-Loss.field-0 c.in-Ok-Loss.field-0-is
    (omega (arith, count, c.if-count-input.false)) (omega (arith, count, c.judging-test.true)) (λ t. eqb-true (c.judging.before + 1) c.args.count t ∙ sym count)
    (λ t e. false≢true (sym t ∙ eq-eqb (c.judging.before + 1) c.args.count (e ∙ count)))
    (c.in-Ok-Loss.ensures.judged all sees (counts (sets_of target)) h.left rest (sym (same (c.judging.before + 1)) ∙ sym c.of.ensures) h.spelled h.items) c.loss_at.ensures)

pub returns-in-Err-clause-judged : goal.returns-in-Err-clause-judged
returns-in-Err-clause-judged g c all sees lines rest spelled count items =
    let n = c.in-Err.ensures.fed all sees in
    let i = c.judging.invariant.fed all n.0 in
    with_target _ (target_of c.args.input.now.round.now.target) c.args.input.now.wanted c.in-Some.wanted c.requires.input.wanted c.in-Some.is
    (λ target is same.
    let h = c.judging.invariant.left all n.0 lines rest target spelled count items is in
    stop_judged _ _ _ target _ _ _ lines rest c.judging.before c.judging.used h c.in-Err.stop i.1 (omega (arith, count, c.judging-test.true))
    (c.in-Err.ensures.judged all sees (counts (sets_of target)) h.left rest (sym (same (c.judging.before + 1)) ∙ sym c.of.ensures) h.spelled h.items))

pub returns-clause-judged : goal.returns-clause-judged
returns-clause-judged g c all sees lines rest spelled count items =
    with_target _ (target_of c.args.input.now.round.now.target) c.args.input.now.wanted c.in-Some.wanted c.requires.input.wanted c.in-Some.is
    (λ target is same.
    let h = c.judging.invariant.left all sees lines rest target spelled count items is in
    all_judged _ _ _ target _ _ lines rest c.judging.before c.judging.used h _ c.loss_at-2.result
    (omega (arith, count, c.if-count-input.false)) (omega (arith, count, c.judging-test.false, c.judging.auto.before-end)) (λ t. count ∙ eqb-true c.args.count c.args.input.now.round.now.limit t)
    (λ t e. false≢true (sym t ∙ eq-eqb c.args.count c.args.input.now.round.now.limit (sym count ∙ e))) c.loss_at-2.ensures)
