-- Which texts of events there are, and what they are read as.
use Rattle.std.specs.Prelude.{◌≡◌, ◌≢◌, ℕ, List, ◌++◌, Some, None}
use Rattle.certificate_data.specs.declared.format.Format.{Format}
use Rattle.certificate_lines.specs.declared.fault.TextKind.TheVariants.{BadHead, AfterEnd, ReadFault, Memory}
use Rattle.certificate_lines.specs.declared.fault.TextFault.{TextFault}
use Rattle.board_laws.specs.Content.{Event}
use Rattle.board_report.specs.EventSpelling.{EventsAreSpelled}
use Rattle.board_report.specs.EventFaults.{events_fault}

pub record EventsHaveTexts : Type 0 where
  -- a text spells one list of events at most, and a list has one text at most
  pub one_list : (format : Format) (counties : ℕ) (text : List ℕ) (es fs : List Event)
      → EventsAreSpelled format counties text es
      → EventsAreSpelled format counties text fs → es ≡ fs
  pub one_text : (format : Format) (counties : ℕ) (text other : List ℕ) (es : List Event)
      → EventsAreSpelled format counties text es
      → EventsAreSpelled format counties other es → text ≡ other
  -- a text behind another spells the events of both, one list behind the other
  pub append : (format : Format) (counties : ℕ) (text other : List ℕ) (es fs : List Event)
      → EventsAreSpelled format counties text es
      → EventsAreSpelled format counties other fs → EventsAreSpelled format counties (text ++ other) (es ++ fs)
  -- a text that spells events has no fault
  pub no_fault : (format : Format) (counties : ℕ) (text : List ℕ) (es : List Event)
      → EventsAreSpelled format counties text es
      → events_fault format counties text ≡ None
  -- a text without a fault spells a list
  pub some_list : (format : Format) (counties : ℕ) (text : List ℕ) → events_fault format counties text ≡ None
      → (es : List Event) × EventsAreSpelled format counties text es
  -- the fault of a text of events is one of its lines: no head and no end is wanted, and no memory or source decides it
  pub faults : (format : Format) (counties : ℕ) (text : List ℕ) (fault : TextFault)
      → events_fault format counties text ≡ Some fault
      → (fault.kind ≢ BadHead) × (fault.kind ≢ AfterEnd) × (fault.kind ≢ ReadFault) × (fault.kind ≢ Memory)
