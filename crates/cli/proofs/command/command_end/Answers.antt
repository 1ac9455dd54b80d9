use Rattle.std.proofs.Common.{inl, refl}
use Rattle.cli_words.specs.declared.words.CommandWords.TheVariants.{Size, Judge, Solve, Check, Audit, List, Share, Piece, Worker}
use Rattle.cli_answers.specs.Answers.{said_by}
use Rattle.run_laws.specs.JudgeSteps.{size_steps}
use Rattle.run_laws.specs.PieceSteps.{piece_steps}
use Rattle.run_laws.specs.Spoken.{behind}
use Rattle.cli.proofs.CommandLemmas.{quiet_end, run_plain, silent_end, writing_end}
use Rattle.cli.proofs.command.command_end.Goals as goal

pub returns-in-Judge : goal.returns-in-Judge
returns-in-Judge g c = silent_end g.H.FileStore.contents g.H.FileStore.history g.H.FileStore.stored g.W.Sink.contents g.W.Sink.is_failed c.args.file_store.now c.judge.new.file_store c.args.out.now c.args.written.now c.args.command (Judge c.in-Judge.words) (said_by c.judge.result) (said_by c.shown-in-Judge.result) c.in-Judge.is c.judge.ensures c.shown-in-Judge.ensures

pub returns-in-Solve : goal.returns-in-Solve
returns-in-Solve g c = silent_end g.H.FileStore.contents g.H.FileStore.history g.H.FileStore.stored g.W.Sink.contents g.W.Sink.is_failed c.args.file_store.now c.solve.new.file_store c.args.out.now c.args.written.now c.args.command (Solve c.in-Solve.words) (said_by c.solve.result) (said_by c.shown-in-Solve.result) c.in-Solve.is c.solve.ensures c.shown-in-Solve.ensures

pub returns-in-Check : goal.returns-in-Check
returns-in-Check g c = silent_end g.H.FileStore.contents g.H.FileStore.history g.H.FileStore.stored g.W.Sink.contents g.W.Sink.is_failed c.args.file_store.now c.check.new.file_store c.args.out.now c.args.written.now c.args.command (Check c.in-Check.words) (said_by c.check.result) (said_by c.shown-in-Check.result) c.in-Check.is c.check.ensures c.shown-in-Check.ensures

pub returns-in-Audit : goal.returns-in-Audit
returns-in-Audit g c = silent_end g.H.FileStore.contents g.H.FileStore.history g.H.FileStore.stored g.W.Sink.contents g.W.Sink.is_failed c.args.file_store.now c.audit.new.file_store c.args.out.now c.args.written.now c.args.command (Audit c.in-Audit.words) (said_by c.audit.result) (said_by c.shown-in-Audit.result) c.in-Audit.is c.audit.ensures c.shown-in-Audit.ensures

pub returns-in-List : goal.returns-in-List
returns-in-List g c = silent_end g.H.FileStore.contents g.H.FileStore.history g.H.FileStore.stored g.W.Sink.contents g.W.Sink.is_failed c.args.file_store.now c.list.new.file_store c.args.out.now c.args.written.now c.args.command (List c.in-List.words) (said_by c.list.result) (said_by c.shown-in-List.result) c.in-List.is c.list.ensures c.shown-in-List.ensures

pub returns-in-Size : goal.returns-in-Size
returns-in-Size g c =
    quiet_end g.H.FileStore.contents g.H.FileStore.history g.H.FileStore.stored g.W.Sink.contents g.W.Sink.is_failed c.args.file_store.now c.size.new.file_store c.args.out.now c.args.written.now c.args.command (Size c.in-Size.words) (size_steps (g.H.FileStore.contents c.args.file_store.now) c.in-Size.words) c.size.result (said_by c.shown.result) c.in-Size.is c.size.ensures.same c.size.ensures.kept (λ a h. (h, refl)) c.size.ensures.steps c.shown.ensures

pub returns-in-Share : goal.returns-in-Share
returns-in-Share g c = silent_end g.H.FileStore.contents g.H.FileStore.history g.H.FileStore.stored g.W.Sink.contents g.W.Sink.is_failed c.args.file_store.now c.share.new.file_store c.args.out.now c.args.written.now c.args.command (Share c.in-Share.words) (said_by c.share.result) (said_by c.share.result) c.in-Share.is c.share.ensures (inl refl)

pub returns-in-Piece : goal.returns-in-Piece
returns-in-Piece g c =
    quiet_end g.H.FileStore.contents g.H.FileStore.history g.H.FileStore.stored g.W.Sink.contents g.W.Sink.is_failed c.args.file_store.now c.piece.new.file_store c.args.out.now c.args.written.now c.args.command (Piece c.in-Piece.words) (piece_steps (g.H.FileStore.contents c.args.file_store.now) c.in-Piece.words) c.piece.result (said_by c.piece.result) c.in-Piece.is c.piece.ensures.same c.piece.ensures.kept (λ a h. (h, refl)) c.piece.ensures.steps (inl refl)

pub returns-in-Worker : goal.returns-in-Worker
returns-in-Worker g c =
    writing_end g.H.FileStore.contents g.H.FileStore.history g.H.FileStore.stored g.W.Sink.contents g.W.Sink.is_failed c.args.file_store.now c.worker.new.file_store c.args.out.now c.worker.new.out c.args.written.now c.worker.new.written c.args.command (Worker c.in-Worker.words) (said_by c.worker.result) c.in-Worker.is
    (let done = c.worker.ensures in (
      done.0,
      done.1,
      done.2,
      done.3,
      run_plain (g.H.FileStore.contents c.args.file_store.now) (Worker c.in-Worker.words) (g.H.FileStore.history c.args.file_store.now)
          (g.H.FileStore.history c.worker.new.file_store) done.0 (behind done.1 (said_by c.worker.result)) refl done.4,
    ))
