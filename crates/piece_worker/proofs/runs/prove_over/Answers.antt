use Rattle.std.proofs.Common.{◌≡◌, ◌∙◌, [], length, sym, ap, subst}
use Rattle.std.specs.Prelude.{None}
use Rattle.connected_sets.specs.Graphs.{graph_problem}
use Rattle.county_problem.specs.OrderedValue.{OrderedValue, problem_at}
use Rattle.county_problem.specs.ProblemValue.{problem_of}
use Rattle.worker_texts.specs.Coming.{nothing_held}
use Rattle.written_output.proofs.Texts.{written_none}
use Rattle.piece_worker.specs.Rounds.{HoldsRound}
use Rattle.piece_worker.specs.Runs.{IsWorkerRun}
use Rattle.piece_worker.proofs.WholeRuns.{none_read, run_of}
use Rattle.piece_worker.proofs.runs.prove_over.Goals as goal

pub returns-in_default : goal.returns-in_default
returns-in_default g c = (
  [],
  nothing_held,
  written_none (g.W.Sink.contents c.args.out.now) (g.W.Sink.is_failed c.args.out.now) c.args.written.now,
  none_read (problem_of c.args.problem.now) (g.S.Source.given c.args.source.now) c.memory_fault.result c.memory_fault.ensures,
)

pub returns-in_default-build : goal.returns-in_default-build
returns-in_default-build g c = (
  [],
  nothing_held,
  written_none (g.W.Sink.contents c.args.out.now) (g.W.Sink.is_failed c.args.out.now) c.args.written.now,
  none_read (problem_of c.args.problem.now) (g.S.Source.given c.args.source.now) c.memory_fault-in_default-build.result c.memory_fault-in_default-build.ensures,
)

pub answer_all-requires-clause-lists : goal.answer_all-requires-clause-lists
answer_all-requires-clause-lists g c =
    let ordered = c.in-Ok-build.graph.ordered.now in
    c.new-worker.ensures.lists (problem_at ordered) (length ordered.order)

pub returns : goal.returns
returns g c =
    let p = graph_problem c.in-Ok-build.graph in
    let same : p ≡ problem_of c.args.problem.now = ap (λ (o : OrderedValue). problem_of o.problem) (c.in-Ok-build.ensures.ordered ∙ c.in-Ok.ensures) in
    let h = c.answer_all.ensures.answered None (subst (HoldsRound p None) (sym c.new-worker.ensures.last) tt) in (
      h.text,
      h.left,
      h.written,
      subst (λ z. IsWorkerRun z (g.S.Source.given c.args.source.now) (g.S.Source.given c.answer_all.new.source) h.text h.left c.answer_all.result) same
          (run_of p _ _ c.new-worker.ensures.reader c.answer_all.result h),
    )
