use Rattle.std.proofs.Common.{map}
use Rattle.share_board.specs.Events.{event_of}
use Rattle.board_report.proofs.ReadOnly.{only_read}
use Rattle.board_report.proofs.event_reading.read_events.Goals as goal

pub returns-clause-only : goal.returns-clause-only
returns-clause-only c = only_read (λ v. map event_of v.items) c.args.format c.args.counties c.args.text.now c.events_of.result c.events_of.ensures.found c.events_of.ensures.fault
