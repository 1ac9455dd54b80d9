use Rattle.std.proofs.Common.{◌≡◌, Ok, Some, inl, inr, refl, sym, subst}
use Rattle.worker_texts.specs.Coming.{Held, ReadsNext, IsPrompt}
use Rattle.worker_texts.specs.declared.worker_text.WorkerText.{WorkerText}
use Rattle.written_output.proofs.Texts.{written_none}
use Rattle.piece_worker.specs.Taking.{Moment, ReadsOne}
use Rattle.piece_worker.proofs.serving.answer_next.Goals as goal

-- the text was read, and what was read of the source stays as it is
text_read : {C : Type 0} (old new : Moment C) (text : WorkerText) (reader : Held) → reader ≡ new.worker.reader → ReadsNext old.worker.reader old.given new.given (Ok (Some text)) reader
    → IsPrompt 65536 old.given new.given (Ok (Some text)) reader → ReadsOne old new
text_read old new text reader same reads prompt = record {
  text = text;
  reads = subst (λ (r : Held). ReadsNext old.worker.reader old.given new.given (Ok (Some text)) r) same reads;
  prompt = subst (λ (r : Held). IsPrompt 65536 old.given new.given (Ok (Some text)) r) same prompt;
}

pub returns-in-Ok-clause-takes : goal.returns-in-Ok-clause-takes
unfolding text_read
returns-in-Ok-clause-takes g c = λ last holds.
    let tells = c.in-Ok.ensures.tells last holds (g.S.Source.given c.args.source.now) (g.S.Source.given c.next_text.new.source) in
    let reads = rw c.in-Ok-Some.field-0-is at c.in-Ok-Some.ensures.next in
    let prompt = rw c.in-Ok-Some.field-0-is at c.in-Ok-Some.ensures.prompt in (
      text_read _ _ c.in-Ok-Some.text _ (sym c.take_text.ensures.reader) reads prompt,
      record { said = tells.said; end = tells.end; answers = tells.answers; holds = tells.holds; written = tells.written },
    )

pub returns-in-Err-take_text-clause-takes : goal.returns-in-Err-take_text-clause-takes
returns-in-Err-take_text-clause-takes g c = λ last holds.
    let quiet = c.in-Err-take_text.ensures.quiet (g.S.Source.given c.args.source.now) (g.S.Source.given c.next_text.new.source) in
    let reads = rw c.in-Ok-Some.field-0-is at c.in-Ok-Some.ensures.next in
    let prompt = rw c.in-Ok-Some.field-0-is at c.in-Ok-Some.ensures.prompt in
    inr (c.memory_fault.ensures, text_read _ _ c.in-Ok-Some.text _ (sym c.take_text.ensures.reader) reads prompt, record { last = quiet.last; none = quiet.none })

pub returns-in-Err-clause-takes : goal.returns-in-Err-clause-takes
returns-in-Err-clause-takes g c = λ last holds. inl (c.in-Err.ensures.next, record { last = refl; none = written_none (g.W.Sink.contents c.args.out.now) (g.W.Sink.is_failed c.args.out.now) c.args.written.now })
