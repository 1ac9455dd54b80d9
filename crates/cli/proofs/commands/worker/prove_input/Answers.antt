use Rattle.std.proofs.Common.{[], inl}
use Rattle.std.specs.Prelude.{Err}
use Rattle.cli_words.specs.Words.{standard_input}
use Rattle.run_laws.specs.WorkerSteps.{IsWorkerRun}
use Rattle.run_laws.specs.Reading.{open_step, read_one}
use Rattle.run_laws.specs.Steps.{value_step}
use Rattle.written_output.proofs.Texts.{written_none}
use Rattle.cli.proofs.GoingOnLemmas.{meets, proves_handed, texts_done, texts_stopped, texts_failed}
use Rattle.cli.proofs.commands.worker.prove_input.Goals as goal

pub returns-in-Ok-proved-clause-proved : goal.returns-in-Ok-proved-clause-proved
returns-in-Ok-proved-clause-proved g c =
    let run = c.in-Ok-proved.ensures in (
      run.0,
      run.2,
      texts_done g.H.FileStore.contents g.H.FileStore.history _ _ _ c.open.ensures.same c.in_ok-reader.ensures.steps c.args.problem.now _ (g.H.Reader.Source.given c.prove_pieces-proved.new.source) c.in_ok-reader.ensures.given run.0 run.1 c.in-Ok.field-0 c.in-Ok.ensures.end c.in-Ok.ensures.read c.in-Ok.ensures.logged
          run.3 c.answer_of_end.result c.answer_of_end.ensures.text c.answer_of_end.ensures.status,
    )

pub returns-in-Err-proved-clause-proved : goal.returns-in-Err-proved-clause-proved
returns-in-Err-proved-clause-proved g c =
    let run = c.in-Err-proved.ensures in (
      run.0,
      run.2,
      texts_stopped g.H.FileStore.contents g.H.FileStore.history _ _ _ c.open.ensures.same c.in_ok-reader.ensures.steps c.args.problem.now _ (g.H.Reader.Source.given c.prove_pieces-proved.new.source) c.in_ok-reader.ensures.given run.0 run.1 c.in-Ok.field-0 c.in-Ok.ensures.end c.in-Ok.ensures.read c.in-Ok.ensures.logged
          c.in-Err-proved.fault run.3 c.refuse_text.result c.refuse_text.ensures.answer c.refuse_text.ensures.shown,
    )

pub returns-in-Err-clause-proved : goal.returns-in-Err-clause-proved
returns-in-Err-clause-proved g c =
    let run = c.prove_pieces-proved.ensures in (
      run.0,
      run.2,
      texts_failed g.H.FileStore.contents g.H.FileStore.history _ _ _ c.open.ensures.same c.in_ok-reader.ensures.steps c.args.problem.now _ (g.H.Reader.Source.given c.prove_pieces-proved.new.source) c.in_ok-reader.ensures.given run.0 run.1 c.in-Err.fault c.in-Err.ensures.read c.in-Err.ensures.logged
          c.prove_pieces-proved.result run.3 c.refuse_load.result c.refuse_load.ensures,
    )

pub returns-in_err-reader-clause-proved : goal.returns-in_err-reader-clause-proved
returns-in_err-reader-clause-proved g c =
    let files = g.H.FileStore.contents c.args.file_store.now in
    let before = g.H.FileStore.history c.args.file_store.now in
    let after = g.H.FileStore.history c.open.new.file_store in (
      [],
      written_none (g.W.Sink.contents c.args.out.now) (g.W.Sink.is_failed c.args.out.now) c.args.written.now,
      proves_handed c.in_err-reader.field-0.0 c.from_residual.result (read_one files standard_input) (λ given. value_step (IsWorkerRun c.args.problem.now given)) before after c.from_residual.ensures.1
          (meets c.in_err-reader.field-0.0 (λ a. open_step files standard_input before after (Err a)) (λ a. read_one files standard_input before after (Err a)) (λ a stop. inl stop) c.in_err-reader.ensures.steps),
    )
