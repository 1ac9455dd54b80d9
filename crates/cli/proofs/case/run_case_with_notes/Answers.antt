use Rattle.std.proofs.lemmas.Bool.{false_from_ne_true}
use Rattle.std.proofs.Common.{◌≡◌, false, ◌≤◌, ℕ, List, Some, None, ap, refl, inl, inr, rules, subst, length}
use Rattle.std.specs.Prelude.{Ok, Err, codes}
use Rattle.cli_file_stores.specs.declared.whole_source.WholeFault.{WholeFault}
use Rattle.cli_file_stores.specs.declared.whole_source.WholeFault.TheVariants.{TooLarge, Failed, Memory}
use Rattle.cli_answers.specs.Answer.{Answered, memory_answer}
use Rattle.cli_answers.specs.Answers.{answer_of}
use Rattle.cli.specs.Delivery.{Delivers}
use Rattle.cli.specs.CaseRun.{IsCaseAnswer}
use Rattle.cli.proofs.case.run_case_with_notes.Goals as goal

pub returns-in-Ok-Some : goal.returns-in-Ok-Some
returns-in-Ok-Some g c =
    let a : Answered = answer_of c.in-Ok-Some.answer in
    let small : length c.in-Ok.text.items ≤ 16777216 = search rules in
    let sound : g.R.Source.is_failed c.read_whole.new.source ≡ false = false_from_ne_true _ (λ failed. let bad = c.in-Ok.ensures.failed.1 failed in cc) in
    let answer : IsCaseAnswer c.deref.result.now (Some a) = search rules in (
      Ok c.in-Ok.text.items,
      (sound, c.in-Ok.ensures.whole, small),
      Some a,
      inr (subst (λ (t : List ℕ). IsCaseAnswer t (Some a)) c.deref.ensures.value answer),
      subst (λ (t : List ℕ). Delivers (g.W.Sink.is_failed c.deliver-status.new.out) (g.W.Sink.contents c.args.out.now) (g.W.Sink.contents c.deliver-status.new.out) (record { text = t; status = c.in-Ok-Some.answer.status }) c.deliver-status.result)
          c.deref-in-Ok-Some.ensures.value c.deliver-status.ensures,
    )

pub returns-in-Ok-None : goal.returns-in-Ok-None
returns-in-Ok-None g c =
    let small : length c.in-Ok.text.items ≤ 16777216 = search rules in
    let sound : g.R.Source.is_failed c.read_whole.new.source ≡ false = false_from_ne_true _ (λ failed. let bad = c.in-Ok.ensures.failed.1 failed in cc) in
    let answer : IsCaseAnswer c.deref.result.now None = search rules in
    (Ok c.in-Ok.text.items, (sound, c.in-Ok.ensures.whole, small), None, inr (subst (λ (t : List ℕ). IsCaseAnswer t None) c.deref.ensures.value answer), (refl, refl))

pub returns-in-Ok : goal.returns-in-Ok
returns-in-Ok g c =
    let small : length c.in-Ok.text.items ≤ 16777216 = search rules in
    let sound : g.R.Source.is_failed c.read_whole.new.source ≡ false = false_from_ne_true _ (λ failed. let bad = c.in-Ok.ensures.failed.1 failed in cc) in
    (Ok c.in-Ok.text.items, (sound, c.in-Ok.ensures.whole, small), Some memory_answer, inl refl, c.deliver-status-in-Err.ensures)

pub returns-in-Err-TooLarge : goal.returns-in-Err-TooLarge
returns-in-Err-TooLarge g c =
    let sound : g.R.Source.is_failed c.read_whole.new.source ≡ false = false_from_ne_true _ (λ failed. let bad = c.in-Err-TooLarge.ensures.failed.1 failed in let is = c.in-Err-TooLarge.field-0-is in cc) in
    (Err TooLarge, (sound, c.in-Err-TooLarge.ensures.large (ap (λ (f : WholeFault). Err f) c.in-Err-TooLarge.field-0-is)), Some (record { text = codes "refused case TooLarge line 0\n"; status = 4 }), refl, c.deliver-status-in-Err-TooLarge.ensures)

pub returns-in-Err-Failed : goal.returns-in-Err-Failed
returns-in-Err-Failed g c =
    (Err Failed, c.in-Err-Failed.ensures.failed.0 (ap (λ (f : WholeFault). Err f) c.in-Err-Failed.field-0-is), Some (record { text = codes "device case Device\n"; status = 5 }), refl, c.deliver-status-in-Err-Failed.ensures)

pub returns : goal.returns
returns g c =
    let sound : g.R.Source.is_failed c.read_whole.new.source ≡ false = false_from_ne_true _ (λ failed. let bad = c.in-Err-Memory.ensures.failed.1 failed in let is = c.in-Err-Memory.field-0-is in cc) in
    (Err Memory, sound, Some memory_answer, refl, c.deliver-status-in-Err-Memory.ensures)
