-- What stands behind the first line of an event.
use Rattle.std.specs.Prelude.{◌≡◌, ℕ, List}
use Rattle.certificate_data.specs.declared.format.Format.{Format}
use Rattle.certificate_lines.specs.Fitting.{AllFit}
use Rattle.certificate_lines.specs.Spelling.{text_of_items}
use Rattle.board_laws.specs.Content.{Event}
use Rattle.board_report.specs.EventSpelling.{line_of_event, items_of, wanted_by, HasForm}
use Rattle.board_report.specs.declared.event_line.EventLine.{EventLine}

-- the text is that of the lines behind the first line of the event, and their items fit there
pub record StandsBehind (format : Format) (counties : ℕ) (line : EventLine) (text : List ℕ)
    (event : Event) : Type 0 where
  pub line_is : line_of_event event ≡ line
  pub fits : AllFit (wanted_by format counties line) (items_of event)
  pub form : HasForm event
  pub text_is : text ≡ text_of_items (items_of event)
