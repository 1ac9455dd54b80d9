use Rattle.std.proofs.Common.{ℕ, List, sym, subst}
use Rattle.std.proofs.lemmas.Result.{err_from_is_err_and}
use Rattle.connected_sets.specs.Graphs.{graph_problem}
use Rattle.written_output.specs.Writing.{IsWritten}
use Rattle.piece_worker.specs.Rounds.{HoldsRound}
use Rattle.written_output.proofs.Texts.{written_none}
use Rattle.piece_worker.proofs.Tellings.{round_tells, piece_tells}
use Rattle.piece_worker.proofs.serving.take_text.Goals as goal

pub returns-in_ok-numbered_round-in-Round-clause-tells : goal.returns-in_ok-numbered_round-in-Round-clause-tells
returns-in_ok-numbered_round-in-Round-clause-tells g c = λ last holds from to.
    round_tells (graph_problem c.args.graph.now) last c.args.text _ _ c.in-Round.told c.in-Round.is c.in_ok-numbered_round-in-Round.ensures
    (written_none (g.W.Sink.contents c.args.out.now) (g.W.Sink.is_failed c.args.out.now) c.args.written.now)

pub returns-in_ok-write_next-in-Open-clause-tells : goal.returns-in_ok-write_next-in-Open-clause-tells
returns-in_ok-write_next-in-Open-clause-tells g c = λ last holds from to.
    let p = graph_problem c.args.graph.now in
    piece_tells p last c.args.text _ _ c.in-Open.piece _ c.in-Open.is (c.in_ok-said-in-Open.ensures.answer last holds)
    (subst (HoldsRound p last) (sym c.ended_answer.ensures.last) holds)
    (subst (λ (t : List ℕ). IsWritten (g.W.Sink.contents c.args.out.now) (g.W.Sink.contents c.write_next.new.out) (g.W.Sink.is_failed c.args.out.now) (g.W.Sink.is_failed c.write_next.new.out) c.args.written.now c.write_next.new.written t) c.deref.ensures.value c.in_ok-write_next-in-Open.ensures.written)

pub returns-in_err-write_next-in-Open-clause-quiet : goal.returns-in_err-write_next-in-Open-clause-quiet
returns-in_err-write_next-in-Open-clause-quiet g c = λ from to.
    let p = err_from_is_err_and c.from_residual-in_err-write_next-in-Open.result c.from_residual-in_err-write_next-in-Open.ensures.1 in
    rw (p.1) (record { last = c.ended_answer.ensures.last; none = c.in_err-write_next-in-Open.ensures.none })
