use Rattle.cli.proofs.WrittenLemmas.{delivers_behind, delivers_cut}
use Rattle.cli.proofs.command.deliver_rest.Goals as goal

pub returns-then-written : goal.returns-then-written
returns-then-written g c = λ begun fresh front is h.
    delivers_cut (g.W.Sink.contents begun) (g.W.Sink.contents c.args.out.now) (g.W.Sink.is_failed begun) (g.W.Sink.is_failed c.args.out.now) fresh c.args.written.now front is h _ c.if-written.true

pub returns : goal.returns
returns g c = λ begun fresh front is h.
    delivers_behind (g.W.Sink.is_failed c.deliver.new.out) (g.W.Sink.contents begun) (g.W.Sink.contents c.args.out.now) (g.W.Sink.contents c.deliver.new.out) front (record { text = c.args.text.now; status = c.args.status }) c.deliver.result
    (h.whole c.if-written.false).1 c.deliver.ensures
