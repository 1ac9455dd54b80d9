-- The items of a text that may yet come from a source.
use Rattle.std.specs.Prelude.{◌≡◌, ℕ, List, [], ◌∷◌, ◌++◌, length, drop, reverse, Option, Some, None}
use Rattle.std.specs.Prelude.{Result, Ok, Err}
use Rattle.field_lines.specs.RawPieces.{raw_lines_from}
use Rattle.field_lines.specs.Source.{Given}
pub use Rattle.field_lines.specs.HeldBytes.{Foresees}
use Rattle.field_lines.specs.LinesFrom.{LinesHeld, nothing_read}
use Rattle.field_lines.specs.declared.fault.LineFault.{LineFault}
use Rattle.field_lines.specs.declared.fault.LineFault.TheVariants as line
use Rattle.certificate_lines.specs.Rest.{text_fault_at, IsUnread}
use Rattle.certificate_lines.specs.ItemReadings.{Unread, nothing, only_fault, first, reading_from, IsNextItem, IsNextItemRead}
use Rattle.certificate_lines.specs.declared.fault.TextKind.{TextKind}
use Rattle.certificate_lines.specs.declared.fault.TextKind.TheVariants.{ReadFault, Memory}
use Rattle.certificate_lines.specs.declared.fault.TextFault.{TextFault}
use Rattle.certificate_lines.specs.declared.item.Item.{Item}
use Rattle.certificate_lines.specs.declared.item.Wanted.{Wanted}
use Rattle.certificate_lines.specs.declared.item.Wanted.TheVariants as want

-- what is to come, by the bytes that come later
abbrev pub ItemsLeft : Type 0
ItemsLeft = List ℕ → Unread

-- of a text in memory: no byte comes later
abbrev pub in_memory : Unread → ItemsLeft
in_memory reading = λ later. reading

-- of a text that is read, where these things are wanted in turn, the first on a line of this number
abbrev pub left_at : List Wanted → ℕ → LinesHeld → ItemsLeft
left_at wanted number held = λ later. reading_from wanted number (raw_lines_from held.number (held.bytes ++ later))

-- what a reader of items has: what is wanted, on a stack, whose top is its last; the number of the next line; what its
-- reader of lines has; and the fault that was answered
pub record ItemsHeld : Type 0 where
  pub wanted : List Wanted
  pub number : ℕ
  pub held : LinesHeld
  pub fault : Option TextFault

-- of a certificate, of which nothing was read
abbrev pub nothing_taken : ItemsHeld
nothing_taken = record { wanted = want.Head ∷ []; number = 1; held = nothing_read; fault = None }

-- what it has left: a fault, once it was found, else what the rest has
abbrev pub unless_found : ItemsLeft → Option TextFault → ItemsLeft
unless_found left None = left
unless_found left (Some fault) = λ later. only_fault fault

abbrev pub left_of_reader : ItemsHeld → ItemsLeft
left_of_reader h = unless_found (left_at (reverse h.wanted) h.number h.held) h.fault

-- what is to come where the source gave so much so far, and gives this text in the end
abbrev pub reading_by : ItemsLeft → Given → List ℕ → Unread
reading_by left given all = left (drop (length given.bytes) all)

-- Whatever text the source may give in the end: it might before, and of what was to come and what is to come this
-- holds.
abbrev pub Through : ItemsLeft → Given → ItemsLeft → Given → (Unread → Unread → Type 0) → Type 0
Through old before new after Holds =
    (all : List ℕ) → Foresees after all
    → Foresees before all × Holds (reading_by old before all) (reading_by new after all)

-- what a call of a source of items answers
abbrev pub IsNextItemOf : ItemsLeft → Given → Result (Option Item) TextFault → ItemsLeft → Given → Type 0
IsNextItemOf old before answer new after = Through old before new after (λ a b. IsNextItem a answer b)

-- what a call of a source of items answers that doesn't keep the fault
abbrev pub ReadsNext : ItemsLeft → Given → Result (Option Item) TextFault → ItemsLeft → Given → Type 0
ReadsNext old before answer new after = Through old before new after (λ a b. IsNextItemRead a answer b)

-- the next item is read
abbrev pub ReadsItem : ItemsLeft → Given → Result Item TextFault → ItemsLeft → Given → Type 0
ReadsItem old before (Ok item) new after = Through old before new after (λ a b. a ≡ first item b)
ReadsItem old before (Err fault) new after =
    Through old before new after (λ a b. (IsUnread fault → ⊥) → a ≡ only_fault fault)

-- the end is read
abbrev pub ReadsEnd : ItemsLeft → Given → Result (Unit {0}) TextFault → ItemsLeft → Given → Type 0
ReadsEnd old before (Ok done) new after = Through old before new after (λ a b. (a ≡ nothing) × (b ≡ nothing))
ReadsEnd old before (Err fault) new after =
    Through old before new after (λ a b. (IsUnread fault → ⊥) → a ≡ only_fault fault)

-- the fault of a reader of lines, at this line, where a line that is too long is a fault of this kind
abbrev pub fault_of_reader : LineFault → TextKind → ℕ → TextFault
fault_of_reader (line.LineTooLong found) long number = text_fault_at long number
fault_of_reader (line.ReadFault found) long number = text_fault_at ReadFault number
fault_of_reader line.TooManyLines long number = text_fault_at Memory number
fault_of_reader line.Memory long number = text_fault_at Memory number
