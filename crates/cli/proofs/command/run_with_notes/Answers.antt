use Rattle.run_laws.specs.Spoken.{behind}
use Rattle.run_laws.proofs.Telling.{run_tells}
use Rattle.cli.specs.Delivery.{texts}
use Rattle.cli.specs.Ends.{said_of}
use Rattle.cli.proofs.WrittenLemmas.{fresh_of}
use Rattle.cli.proofs.command.run_with_notes.Goals as goal

pub words_answer-said-requires : goal.words_answer-said-requires
words_answer-said-requires g c = fresh_of c.new-written.result c.new-written.ensures.kept c.new-written.ensures.whole

pub returns : goal.returns
returns g c =
    let run = c.words_answer-said.ensures in
    let said = behind run.1 (said_of c.words_answer-said.result) in
    let fresh = fresh_of c.new-written.result c.new-written.ensures.kept c.new-written.ensures.whole in record {
      run = (
        said,
        run.0,
        run.2,
        run.4,
        run_tells (g.H.FileStore.contents c.args.file_store.now) (texts c.args.words.now) (g.H.FileStore.history c.args.file_store.now) (g.H.FileStore.history c.words_answer-said.new.file_store) run.0 said run.4,
        c.deliver_said-status.ensures c.args.out.now c.new-written.result run.1 fresh run.3,
      );
    }
