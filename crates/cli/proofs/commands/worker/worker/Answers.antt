use Rattle.std.proofs.Common.{[]}
use Rattle.run_laws.proofs.StoreLemmas.{none_stored}
use Rattle.cli.proofs.GoingOnLemmas.{worker_ran}
use Rattle.cli.proofs.commands.worker.worker.Goals as goal

pub returns : goal.returns
returns g c =
    let files = g.H.FileStore.contents c.args.file_store.now in
    let proved = c.prove_files.ensures.proved in (
      [],
      proved.0,
      none_stored files (g.H.FileStore.contents c.prove_files.new.file_store) (g.H.FileStore.stored c.args.file_store.now) (g.H.FileStore.stored c.prove_files.new.file_store) c.prove_files.ensures.same c.prove_files.ensures.kept,
      proved.1,
      worker_ran files c.args.words (g.H.FileStore.history c.args.file_store.now) (g.H.FileStore.history c.prove_files.new.file_store) proved.0 c.prove_files.result proved.2,
    )
