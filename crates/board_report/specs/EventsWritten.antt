-- What a call writes at the end of a text.
use Rattle.std.specs.Prelude.{◌≡◌, ℕ, List, ◌++◌, Result, Ok, Err}
use Rattle.certificate_data.specs.declared.format.Format.{Format}
use Rattle.certificate_lines.specs.declared.fault.WriteFault.{WriteFault}
use Rattle.certificate_lines.specs.declared.fault.WriteFault.TheVariants.{NoSpelling}
use Rattle.board_laws.specs.Content.{Event}
use Rattle.board_report.specs.EventSpelling.{text_of_event, HasSpelling}

-- the text of an event was written, which has a spelling
pub record WroteEvent (format : Format) (counties : ℕ) (event : Event) (old new : List ℕ) : Type 0 where
  pub text : new ≡ old ++ text_of_event event
  pub spelled : HasSpelling format counties event

-- A call writes the text of an event, where it has a spelling.
abbrev pub WritesEvent : Format → ℕ → Event → List ℕ → Result (Unit {0}) WriteFault → List ℕ → Type 0
WritesEvent format counties event old (Ok done) new = WroteEvent format counties event old new
WritesEvent format counties event old (Err fault) new = fault ≡ NoSpelling → HasSpelling format counties event → ⊥
