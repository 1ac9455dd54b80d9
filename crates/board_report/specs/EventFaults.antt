-- The first fault of a text of events.
use Rattle.std.specs.Prelude.{ℕ, ◌+◌, List, [], ◌∷◌, ◌++◌, Option, Some, None, Ok, Err}
use Rattle.field_lines.specs.RawPieces.{RawLine, raw_lines}
use Rattle.certificate_data.specs.declared.format.Format.{Format}
use Rattle.certificate_lines.specs.Items.{by_words, item_on, wanted_after}
use Rattle.certificate_lines.specs.Rest.{text_fault_at}
use Rattle.certificate_lines.specs.declared.fault.TextFault.{TextFault}
use Rattle.certificate_lines.specs.declared.fault.TextKind.TheVariants.{CutShort}
use Rattle.certificate_lines.specs.declared.item.Wanted.{Wanted}
use Rattle.board_report.specs.EventLines.{event_on}
use Rattle.board_report.specs.EventSpelling.{wanted_by}

-- The first fault on lines, the first of which has the number n, where these things are wanted in turn. If nothing is
-- wanted, an event begins on the next line, or the text ends.
abbrev pub fault_from : Format → ℕ → List Wanted → ℕ → List RawLine → Option TextFault
fault_from format counties [] n [] = None
fault_from format counties [] n (piece ∷ pieces) = elim (by_words event_on piece) as (λ _. Option TextFault) [
  | Ok line ↦ fault_from format counties (wanted_by format counties line) (n + 1) pieces
  | Err kind ↦ Some (text_fault_at kind n)
]
fault_from format counties (wanted ∷ more) n [] = Some (text_fault_at CutShort n)
fault_from format counties (wanted ∷ more) n (piece ∷ pieces) =
    elim (item_on wanted piece) as (λ _. Option TextFault) [
      | Ok item ↦ fault_from format counties (wanted_after wanted item ++ more) (n + 1) pieces
      | Err kind ↦ Some (text_fault_at kind n)
    ]

-- the first fault of a whole text, where trees are of a format and for `counties` counties
abbrev pub events_fault : Format → ℕ → List ℕ → Option TextFault
events_fault format counties text = fault_from format counties [] 1 (raw_lines text)
