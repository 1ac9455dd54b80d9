use Rattle.cli.proofs.ReaderLemmas.{one_sound, one_failed}
use Rattle.cli.proofs.input.readers.give_one_back.Goals as goal

pub returns-in-Ok-clause-back : goal.returns-in-Ok-clause-back
returns-in-Ok-clause-back g c =
    one_sound (g.H.FileStore.contents c.args.file_store.now) c.args.name.now (g.H.Reader.Source.given c.args.reader) c.give_back.result (g.H.FileStore.history c.args.file_store.now) (g.H.FileStore.history c.give_back.new.self)
    c.give_back.ensures.read c.give_back.ensures.logged c.in-Ok.field-0 c.in-Ok.is c.in-Ok.ensures.end

pub returns-in-Err-clause-back : goal.returns-in-Err-clause-back
returns-in-Err-clause-back g c =
    one_failed (g.H.FileStore.contents c.args.file_store.now) c.args.name.now (g.H.Reader.Source.given c.args.reader) c.give_back.result (g.H.FileStore.history c.args.file_store.now) (g.H.FileStore.history c.give_back.new.self)
    c.give_back.ensures.read c.give_back.ensures.logged c.in-Err.fault c.refuse_load.result c.in-Err.is c.refuse_load.ensures
