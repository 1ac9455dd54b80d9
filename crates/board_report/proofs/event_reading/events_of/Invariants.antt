use Rattle.std.proofs.Common.{length, map}
use Rattle.share_board.specs.Events.{event_of}
use Rattle.board_report.proofs.FrontEvents.{Passed}
use Rattle.board_report.proofs.event_reading.events_of.Given as goal

abbrev pub invariant-events : goal.invariant-events
invariant-events l = Passed l.format l.counties l.text (map event_of l.events.items) l.lines l.rest

abbrev pub decreases-events : goal.decreases-events
decreases-events l = length l.rest
