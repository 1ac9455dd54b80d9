use Rattle.std.proofs.Common.{◌≡◌, false, Option}
use Rattle.connected_sets.specs.Graphs.{graph_places, graph_problem, place_problem}
use Rattle.search_groups.specs.PartLists.{AreListsOf}
use Rattle.worker_texts.specs.RoundText.{RoundTold}
use Rattle.piece_worker.specs.Rounds.{HoldsRound}
use Rattle.piece_worker.specs.Taking.{moment}
use Rattle.piece_worker.proofs.Underway.{IsUnderway}
use Rattle.piece_worker.proofs.serving.answer_all.Given as goal

-- a number of texts was answered, and no pull has failed
abbrev pub invariant-loop : goal.invariant-loop
invariant-loop g l = record {
  lists : AreListsOf g.C.CountySet.test (place_problem l.graph) (graph_places l.graph) l.worker.lists;
  holds : (last : Option RoundTold) × HoldsRound (graph_problem l.graph) last l.worker.last;
  underway : (last : Option RoundTold) → HoldsRound (graph_problem l.graph) last l.fn.worker.last
      → IsUnderway (graph_problem l.graph) last
      (moment l.fn.worker (g.S.Source.given l.fn.source) (g.W.Sink.contents l.fn.out) (g.W.Sink.is_failed l.fn.out) l.fn.written)
      (moment l.worker (g.S.Source.given l.source) (g.W.Sink.contents l.out) (g.W.Sink.is_failed l.out) l.written)
      l.counter;
  sound : g.S.Source.is_failed l.fn.source ≡ false → g.S.Source.is_failed l.source ≡ false;
}
