use Rattle.std.proofs.Common.{append-nil, ◌∙◌}
use Rattle.board_report.specs.EventSpelling.{text_of_event}
use Rattle.share_board.specs.Events.{event_of}
use Rattle.board_report.proofs.answer_text.event_lines.Goals as goal

pub returns-in-Ok-clause-text : goal.returns-in-Ok-clause-text
returns-in-Ok-clause-text c = c.in-Ok.ensures.spelled.text_is ∙ append-nil (text_of_event (event_of c.args.event.now))
