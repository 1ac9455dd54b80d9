-- The items of a text one at a time, also those in front of a fault.
use Rattle.std.specs.Prelude.{◌≡◌, ℕ, ◌+◌, Bool, List, [], ◌∷◌, ◌++◌, reverse, Option, Some, None, Result, Ok, Err}
use Rattle.field_lines.specs.RawPieces.{RawLine, raw_lines}
use Rattle.field_lines.specs.Values.{GivesUnless}
use Rattle.certificate_lines.specs.Rest.{Rest, lines_of, text_fault_at, IsUnread}
use Rattle.certificate_lines.specs.Items.{item_on, wanted_after}
use Rattle.certificate_lines.specs.declared.fault.TextKind.{TextKind}
use Rattle.certificate_lines.specs.declared.fault.TextKind.TheVariants.{CutShort, AfterEnd, Memory}
use Rattle.certificate_lines.specs.declared.fault.TextFault.{TextFault}
use Rattle.certificate_data.specs.declared.format.Format.{Format}
use Rattle.certificate_lines.specs.declared.item.Item.{Item}
use Rattle.certificate_lines.specs.declared.item.Wanted.{Wanted}
use Rattle.certificate_lines.specs.declared.item.Wanted.TheVariants as want

-- the items to come, and the fault behind them, if there is one
pub record Unread : Type 0 where
  pub items : List Item
  pub fault : Option TextFault

-- nothing is to come; nothing but a fault; an item first
abbrev pub nothing : Unread
nothing = record { items = []; fault = None }

abbrev pub only_fault : TextFault → Unread
only_fault fault = record { items = []; fault = Some fault }

abbrev pub first : Item → Unread → Unread
first item later = record { items = item ∷ later.items; fault = later.fault }

-- the items on lines, the first of which has the number n, where these things are wanted in turn, up to the first fault
abbrev pub reading_from : List Wanted → ℕ → List RawLine → Unread
reading_from [] n [] = nothing
reading_from [] n (piece ∷ pieces) = only_fault (text_fault_at AfterEnd n)
reading_from (wanted ∷ more) n [] = only_fault (text_fault_at CutShort n)
reading_from (wanted ∷ more) n (piece ∷ pieces) = elim (item_on wanted piece) as (λ _. Unread) [
  | Ok item ↦ first item (reading_from (wanted_after wanted item ++ more) (n + 1) pieces)
  | Err kind ↦ only_fault (text_fault_at kind n)
]

-- of a whole text: of a certificate, or of a tree
abbrev pub certificate_reading : List ℕ → Unread
certificate_reading text = reading_from (want.Head ∷ []) 1 (raw_lines text)

abbrev pub tree_reading : Format → ℕ → List ℕ → Unread
tree_reading format counties text = reading_from (want.Tree format counties ∷ []) 1 (raw_lines text)

-- the items, where no fault ends them
abbrev pub whole : List Item → Option TextFault → Result (List Item) TextFault
whole items None = Ok items
whole items (Some fault) = Err fault

-- What is to come after what was read: a fault, once it was found, else what the rest has where the things on a stack
-- are wanted, whose top is its last.
abbrev pub reading_left : List Wanted → Rest → Option TextFault → Unread
reading_left stack rest None = reading_from (reverse stack) rest.number (lines_of rest)
reading_left stack rest (Some fault) = only_fault fault

-- The first of what is to come is given, and what is to come then. A text that could not be read has its fault in the
-- place of any answer; a fault, once given, stays.
abbrev pub IsNextItem : Unread → Result (Option Item) TextFault → Unread → Type 0
IsNextItem old (Ok (Some item)) new = old ≡ first item new
IsNextItem old (Ok None) new = (old ≡ nothing) × (new ≡ nothing)
IsNextItem old (Err fault) new = ((IsUnread fault → ⊥) → old ≡ only_fault fault) × (new ≡ only_fault fault)

-- The first of what is to come is given, and what is to come then, by a call that doesn't keep the fault.
abbrev pub IsNextItemRead : Unread → Result (Option Item) TextFault → Unread → Type 0
IsNextItemRead old (Ok (Some item)) new = old ≡ first item new
IsNextItemRead old (Ok None) new = (old ≡ nothing) × (new ≡ nothing)
IsNextItemRead old (Err fault) new = (IsUnread fault → ⊥) → old ≡ only_fault fault

-- these bytes, and whether an LF ended them, are a line with this item where it is wanted, unless memory was refused
abbrev pub HasItem : Wanted → List ℕ → Bool → Result Item TextKind → Type 0
HasItem wanted bytes ended given =
    (n : ℕ) → GivesUnless (λ kind. kind
    ≡ Memory) (λ item. item) given (item_on wanted (record { number = n; bytes = bytes; ended = ended }))

-- What is wanted after an item lies on the stack, whose top is its last, in the place of what was wanted. A fault
-- leaves the stack as it is.
abbrev pub IsStacked : Wanted → Result Item TextKind → List Wanted → List Wanted → Type 0
IsStacked wanted (Ok item) below stack = reverse stack ≡ wanted_after wanted item ++ reverse below
IsStacked wanted (Err kind) below stack = stack ≡ below
