use Rattle.std.proofs.Common.{[], inl, inr, refl, subst}
use Rattle.cli_answers.specs.Answers.{answer_of}
use Rattle.cli.specs.Ends.{said_of}
use Rattle.run_laws.specs.Recording.{IsSaidAfter}
use Rattle.run_laws.proofs.StoreLemmas.{none_stored}
use Rattle.cli.proofs.recording.store_composed.Goals as goal
use Rattle.cli_words.specs.declared.words.Form.{Form}

pub returns-in-Some : goal.returns-in-Some
returns-in-Some g c = λ before front is kept.
    let end = c.store_bytes.ensures in (
      end.0,
      end.2,
      inr (c.requires, inr (record { text = c.in-Some.bytes.items; is_record = c.in-Some.ensures before front is kept; refusal = end.1; steps = end.3; answer = subst (λ (form : Form). IsSaidAfter form end.1 (answer_of c.args.answer) (said_of c.store_bytes.result)) c.form_of_answer-form.ensures end.4 })),
    )

pub returns-in-None : goal.returns-in-None
returns-in-None g c = λ before front is kept.
    let files = g.H.FileStore.contents c.args.file_store.now in
    let listed = g.H.FileStore.stored c.args.file_store.now in (
      [],
      none_stored files files listed listed refl refl,
      inr (c.requires, inl (record { still = refl; none = refl; answer = c.uncomposed.ensures })),
    )
