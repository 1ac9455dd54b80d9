use Rattle.std.proofs.Common.{map}
use Rattle.board_laws.specs.Content.{Content}
use Rattle.share_board.specs.BoardValue.{IsOf, Keeps, AreBoardLists}
use Rattle.share_board.specs.Events.{event_of}
use Rattle.board_report.specs.Taking.{HasTold}
use Rattle.board_report.proofs.taking.take_and_tell.Given as goal

abbrev pub invariant-loop-event : goal.invariant-loop-event
invariant-loop-event g l = record {
  can : (goal.iterator-loop-event g).can_next l.event-iterator;
  finite : (goal.iterator-loop-event g).is_finite l.event-iterator;
  told : (b : Content) → IsOf g.C.CountySet.test l.fn.board b → HasTold g.C.CountySet.test l.fn.board b (map event_of l.yielded) l.board l.fn.text.items l.text.items;
  keeps : Keeps l.fn.board l.board;
  lists : AreBoardLists g.C.CountySet.test l.board l.lists;
}
