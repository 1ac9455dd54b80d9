use Rattle.std.proofs.Common.{◌≡◌, ◌≤◌, ◌++◌, ℕ, List, take, drop, length, inr, ap, sym, subst, ◌∙◌, arith, length-append}
use Rattle.std.proofs.lemmas.List.{take-append-drop}
use Rattle.worker_texts.specs.TextForms.{PullsOnto, BeginsWithText}
use Rattle.worker_texts.proofs.ComingLaws.{tells_fault, came_by}
use Rattle.worker_texts.proofs.WholeLines.{pulls_more}
use Rattle.worker_texts.proofs.coming_texts.ComingTexts.next_text.Goals as goal

pub returns-in-Err-clause-next : goal.returns-in-Err-clause-next
returns-in-Err-clause-next g c =
    let self = c.loop-text.self in
    let lines : c.self.inside.lines ≡ self.lines = grind (arith, c.self.view_is) in
    let bytes : c.deref.result.now ≡ self.bytes = grind (arith, c.deref.ensures.value, c.self.view_is) in
    record {
      bytes = self.bytes;
      pulls = c.loop-text.invariant.pulls;
      next = tells_fault (g.F.TextForm.form c.args.form.now) c.requires.by_lines
          self c.args.self.now.lines c.self.inside.lines c.deref.result.now c.ended-ended.result (g.S.Source.given c.loop-text.source).ended c.in-Err.fault c.moved.result
          c.in-Err.ensures.only c.loop-text.invariant.lines lines bytes c.ended-ended.ensures c.moved.ensures.kind c.moved.ensures.line c.in-Err.ensures.fault;
    }

pub returns-in-Ok-Some-clause-prompt : goal.returns-in-Ok-Some-clause-prompt
returns-in-Ok-Some-clause-prompt g c =
    let form = g.F.TextForm.form c.args.form.now in
    let self = c.loop-text.self in
    let n = c.in-Ok-Some.length in
    let text = form.text_of (form.told c.in-Ok-Some.text) in
    let rest = c.take_front.new.self.bytes in
    let bytes : c.deref.result.now ≡ self.bytes = grind (arith, c.deref.ensures.value, c.self.view_is) in
    let found : take n c.deref.result.now ≡ text = rw c.in-Ok-Some.field-0-is at c.in-Ok-Some.ensures.found in
    c.loop-text.invariant.prompt (record {
      told = form.told c.in-Ok-Some.text;
      rest = rest;
      spelled = rw c.in-Ok-Some.field-0-is at c.in-Ok-Some.ensures.spelled;
      text_is =
          sym (take-append-drop n self.bytes) ∙ ap (λ (t : List ℕ). t ++ drop n self.bytes) (ap (take n) (sym bytes) ∙ found)
          ∙ ap (λ (t : List ℕ). text ++ t) (sym c.take_front.ensures.bytes);
    })

pub loop-text-preserved : goal.loop-text-preserved
loop-text-preserved g c =
    let form = g.F.TextForm.form c.args.form.now in
    let self = c.loop-text.self in
    let old = c.self.inside.held.items in
    let new = c.pull_onto.new.held.items in
    let before = g.S.Source.given c.loop-text.source in
    let after = g.S.Source.given c.pull_onto.new.source in
    let lines : c.self.inside.lines ≡ self.lines = grind (arith, c.self.view_is) in
    let bytes : old ≡ self.bytes = grind (arith, c.self.view_is) in
    let deref : c.deref.result.now ≡ old = grind (arith, c.deref.ensures.value) in
    let pulls : PullsOnto before after old new = c.in_default.ensures.pulls in
    let few : length pulls.pulled ≤ c.args.pull = omega (arith, c.in_default.ensures.count, c.in_default.ensures.small, ap length pulls.text_is, length-append old pulls.pulled) in
    record {
      pulls = pulls_more _ before after _ self.bytes new c.loop-text.invariant.pulls (subst (λ (t : List ℕ). PullsOnto before after t new) bytes pulls);
      lines = lines ∙ c.loop-text.invariant.lines;
      prompt = λ has.
          let none = λ (h : BeginsWithText form old). c.in-Ok-None.ensures.waits c.in-Ok-None.field-0-is (subst (BeginsWithText form) (sym deref) h) in
          inr (omega (arith, few, came_by form c.requires.by_lines old pulls.pulled new pulls.text_is none has));
      sound = λ h. c.in_default.ensures.sound;
    }
