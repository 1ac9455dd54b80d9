use Rattle.connected_sets.specs.Graphs.{graph_problem}
use Rattle.piece_worker.proofs.Underway.{begun, goes_on, ends_read, ends_fault, ends_full}
use Rattle.piece_worker.proofs.serving.answer_all.Goals as goal

pub loop-init : goal.loop-init
loop-init g c = record {
  lists = c.requires.lists;
  holds = c.requires.round;
  underway = λ last holds. begun (graph_problem c.args.graph.now) last _ holds;
  sound = λ h. h;
}

pub returns-in-Ok-Ended-clause-answered : goal.returns-in-Ok-Ended-clause-answered
returns-in-Ok-Ended-clause-answered g c = λ last holds.
    let underway = c.loop.invariant.underway last holds in
    let takes = rw c.in-Ok-Ended.field-0-is at c.in-Ok-Ended.ensures.takes in
    ends_read (graph_problem c.args.graph.now) last _ _ _ c.loop.counter underway (takes underway.end underway.holds)

pub returns-in-Err-clause-answered : goal.returns-in-Err-clause-answered
returns-in-Err-clause-answered g c = λ last holds.
    let underway = c.loop.invariant.underway last holds in
    ends_fault (graph_problem c.args.graph.now) last _ _ _ c.loop.counter c.in-Err.fault underway (c.in-Err.ensures.takes underway.end underway.holds)

pub loop-preserved : goal.loop-preserved
loop-preserved g c =
    let takes = rw c.in-Ok-Taken.field-0-is at c.in-Ok-Taken.ensures.takes in
    let some = c.loop.invariant.holds in
    let tells = (takes some.0 some.1).1 in
    record {
      lists = c.in-Ok-Taken.ensures.lists;
      holds = (tells.end, tells.holds);
      underway = λ last holds.
          let underway = c.loop.invariant.underway last holds in
          goes_on (graph_problem c.args.graph.now) last _ _ _ c.loop.counter underway (takes underway.end underway.holds);
      sound = λ h. c.in-Ok-Taken.ensures.failed (c.loop.invariant.sound h);
    }

pub returns-clause-answered : goal.returns-clause-answered
returns-clause-answered g c = λ last holds. ends_full (graph_problem c.args.graph.now) last _ _ c.loop.counter _ c.memory_fault.ensures (c.loop.invariant.underway last holds)
