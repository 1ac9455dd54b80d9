use Rattle.std.proofs.Common.{[], refl}
use Rattle.run_laws.specs.Spoken.{behind}
use Rattle.run_laws.proofs.StoreLemmas.{none_stored}
use Rattle.written_output.proofs.Texts.{written_none}
use Rattle.cli.specs.Delivery.{texts}
use Rattle.cli.specs.Ends.{said_of}
use Rattle.cli.proofs.CommandLemmas.{ended_words, meant_run}
use Rattle.cli.proofs.command.words_answer.Goals as goal

pub returns-in-Err : goal.returns-in-Err
returns-in-Err g c =
    let files = g.H.FileStore.contents c.args.file_store.now in
    let listed = g.H.FileStore.stored c.args.file_store.now in (
      [],
      [],
      none_stored files files listed listed refl refl,
      written_none (g.W.Sink.contents c.args.out.now) (g.W.Sink.is_failed c.args.out.now) c.args.written.now,
      ended_words files (texts c.args.words.now) (g.H.FileStore.history c.args.file_store.now) c.in-Err.words_end c.words_end_answer.result c.in-Err.ensures.ends c.in-Err.ensures.taken c.words_end_answer.ensures,
    )

pub returns-in-Ok : goal.returns-in-Ok
returns-in-Ok g c =
    let run = c.answer_as_asked.ensures in (
      run.0,
      run.1,
      run.2,
      run.3,
      meant_run (g.H.FileStore.contents c.args.file_store.now) (texts c.args.words.now) (g.H.FileStore.history c.args.file_store.now) (g.H.FileStore.history c.answer_as_asked.new.file_store) run.0 (behind run.1 (said_of c.answer_as_asked.result)) c.in-Ok.command
          c.in-Ok.ensures.said c.in-Ok.ensures.ends run.4,
    )
