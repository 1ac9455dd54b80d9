use Rattle.std.specs.Prelude.{Some, None}
use Rattle.written_output.specs.Writing.{HasWritten}
use Rattle.cli.specs.Delivery.{texts}
use Rattle.cli.specs.Ends.{said_of}
use Rattle.cli.proofs.RecordLemmas.{asked_as}
use Rattle.cli.proofs.recording.answer_as_asked.Goals as goal

pub returns-in-Some : goal.returns-in-Some
returns-in-Some g c =
    asked_as g.H.FileStore.contents g.H.FileStore.history g.H.FileStore.stored c.args.file_store.now c.answer_with_record.new.file_store (HasWritten g.W.Sink.contents g.W.Sink.is_failed c.args.out.now c.args.written.now c.answer_with_record.new.out c.answer_with_record.new.written)
    (texts c.args.words.now) c.args.command (said_of c.answer_with_record.result) (Some c.in-Some.name.now) _ c.in-Some.ensures c.answer_with_record.ensures

pub returns-in-None : goal.returns-in-None
returns-in-None g c =
    asked_as g.H.FileStore.contents g.H.FileStore.history g.H.FileStore.stored c.args.file_store.now c.command_answer.new.file_store (HasWritten g.W.Sink.contents g.W.Sink.is_failed c.args.out.now c.args.written.now c.command_answer.new.out c.command_answer.new.written)
    (texts c.args.words.now) c.args.command (said_of c.command_answer.result) None _ c.in-None.ensures c.command_answer.ensures
