use Rattle.std.proofs.Common.{◌++◌, [], sym, refl}
use Rattle.std.proofs.lemmas.List.{append-nil}
use Rattle.cli_answers.specs.Answer.{memory_answer}
use Rattle.cli_answers.specs.Answers.{answer_of}
use Rattle.run_laws.specs.Spoken.{behind}
use Rattle.run_laws.proofs.StoreLemmas.{stored_after}
use Rattle.cli.specs.Delivery.{texts}
use Rattle.cli.specs.Ends.{said_of}
use Rattle.cli.proofs.RecordLemmas.{ran_from, unanswered}
use Rattle.cli.proofs.WrittenLemmas.{written_from_fresh}
use Rattle.cli.proofs.recording.answer_with_record.Goals as goal

pub returns-in-Ok : goal.returns-in-Ok
returns-in-Ok g c =
    let run = c.in-Ok.ensures in
    let end = c.store_record.ensures (g.H.FileStore.history c.args.file_store.now) run.1 c.events-first.ensures (run.3.kept [] c.keep_all.ensures.kept) in
    let begun = ran_from g.H.FileStore.contents g.H.FileStore.history g.H.FileStore.stored c.args.file_store.now c.keep_sums.new.self c.command_answer.new.file_store c.keep_sums.ensures.same c.keep_sums.ensures.still c.keep_sums.ensures.kept c.args.command run.0
    (behind run.1 (answer_of c.in-Ok.answer)) run.2 run.4 in (
      run.0 ++ end.0,
      run.1,
      stored_after (g.H.FileStore.contents c.args.file_store.now) (g.H.FileStore.contents c.command_answer.new.file_store) (g.H.FileStore.contents c.store_record.new.file_store) (g.H.FileStore.stored c.args.file_store.now) (g.H.FileStore.stored c.command_answer.new.file_store) (g.H.FileStore.stored c.store_record.new.file_store) run.0 end.0 begun.0 end.1,
      written_from_fresh (g.W.Sink.contents c.args.out.now) (g.W.Sink.contents c.command_answer.new.out) (g.W.Sink.is_failed c.args.out.now) (g.W.Sink.is_failed c.command_answer.new.out) c.args.written.now c.keep_all.new.self c.command_answer.new.written run.1
          c.requires.fresh c.keep_all.ensures.kept c.keep_all.ensures.uncut run.3,
      record {
        written = run.1;
        said = answer_of c.in-Ok.answer;
        end = said_of c.store_record.result;
        between = g.H.FileStore.history c.command_answer.new.file_store;
        own = run.0;
        last = end.0;
        run = begun.1;
        record_ends = end.2;
        all = refl;
        answer = refl;
      },
    )

pub returns-in-Err : goal.returns-in-Err
returns-in-Err g c =
    let run = c.in-Err.ensures in
    let between = g.H.FileStore.history c.command_answer.new.file_store in
    let begun = ran_from g.H.FileStore.contents g.H.FileStore.history g.H.FileStore.stored c.args.file_store.now c.keep_sums.new.self c.command_answer.new.file_store c.keep_sums.ensures.same c.keep_sums.ensures.still c.keep_sums.ensures.kept c.args.command run.0
    (behind run.1 memory_answer) run.2 run.4 in (
      run.0,
      run.1,
      begun.0,
      written_from_fresh (g.W.Sink.contents c.args.out.now) (g.W.Sink.contents c.command_answer.new.out) (g.W.Sink.is_failed c.args.out.now) (g.W.Sink.is_failed c.command_answer.new.out) c.args.written.now c.keep_all.new.self c.command_answer.new.written run.1
          c.requires.fresh c.keep_all.ensures.kept c.keep_all.ensures.uncut run.3,
      record {
        written = run.1;
        said = memory_answer;
        end = memory_answer;
        between = between;
        own = run.0;
        last = [];
        run = begun.1;
        record_ends = unanswered (texts c.args.words.now) c.args.command c.args.name.now (g.H.FileStore.history c.args.file_store.now) between run.1;
        all = sym (append-nil run.0);
        answer = refl;
      },
    )
