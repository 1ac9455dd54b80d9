use Rattle.std.proofs.Common.{map}
use Rattle.board_laws.specs.Content.{Content}
use Rattle.share_board.specs.BoardValue.{IsOf, Keeps, AreBoardLists}
use Rattle.share_board.specs.Events.{event_of}
use Rattle.board_report.specs.Taking.{HasHeard}
use Rattle.board_report.proofs.taking.take_all.Given as goal

abbrev pub invariant-loop-event : goal.invariant-loop-event
invariant-loop-event g l = record {
  can : (goal.iterator-loop-event g).can_next l.event-iterator;
  finite : (goal.iterator-loop-event g).is_finite l.event-iterator;
  heard : (b : Content) → IsOf g.C.CountySet.test l.fn.board b → HasHeard g.C.CountySet.test l.fn.board b (map event_of l.yielded) l.board;
  keeps : Keeps l.fn.board l.board;
  lists : AreBoardLists g.C.CountySet.test l.board l.lists;
}
