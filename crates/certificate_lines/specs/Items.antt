-- The items of a text: what its lines say, one after the other, or its first fault.
use Rattle.std.specs.Prelude.{ℕ, Bool, ◌+◌, ◌-◌, nat_lt, List, [], ◌∷◌, ◌++◌, length, Option, Some, None, Result, Ok}
use Rattle.std.specs.Prelude.{Err, if◌then◌else◌}
use Rattle.field_lines.specs.Chain.{◌>>=◌}
use Rattle.field_lines.specs.RawPieces.{RawLine, raw_lines}
use Rattle.certificate_data.specs.Levels.{after_raise}
use Rattle.certificate_lines.specs.Words.{line_bytes, line_words}
use Rattle.certificate_lines.specs.Lines as line
use Rattle.certificate_lines.specs.Rest.{text_fault_at}
use Rattle.certificate_lines.specs.declared.fault.TextKind.{TextKind}
use Rattle.certificate_lines.specs.declared.fault.TextKind.TheVariants.{CutShort, AfterEnd}
use Rattle.certificate_lines.specs.declared.fault.TextFault.{TextFault}
use Rattle.certificate_data.specs.declared.format.Format.{Format}
use Rattle.certificate_lines.specs.declared.item.Version.{Version}
use Rattle.certificate_lines.specs.declared.item.Version.TheVariants.{One, Two}
use Rattle.certificate_lines.specs.declared.item.Opening.{Opening}
use Rattle.certificate_lines.specs.declared.item.Opening.TheVariants as opening
use Rattle.certificate_lines.specs.declared.item.Item.{Item}
use Rattle.certificate_lines.specs.declared.item.Item.TheVariants.{Head, Within, Order, Limit, Target, Grouped, Opens}
use Rattle.certificate_lines.specs.declared.item.Item.TheVariants.{Takes, Mark, Open, Allows, End}
use Rattle.certificate_lines.specs.declared.item.Wanted.{Wanted}
use Rattle.certificate_lines.specs.declared.item.Wanted.TheVariants as want

-- what a line says, by what its words say
abbrev pub by_words : {X : Type 0} → (List (List ℕ) → Result X TextKind) → RawLine → Result X TextKind
by_words read piece = do
  words ← line_words piece.bytes piece.ended
  read words

-- what the head says; any other first line is a bad head
abbrev pub head_in : List ℕ → Bool → Result (Format × Version) TextKind
head_in bytes ended = do
  first ← line_bytes bytes ended
  line.head_on first

-- what is said, seen by `view`
abbrev pub seen : {X Y : Type 0} → (X → Y) → Result X TextKind → Result Y TextKind
seen view (Ok x) = Ok (view x)
seen view (Err kind) = Err kind

-- a take, or the mark
abbrev pub taken : Option (List ℕ) → Item
taken (Some county_codes) = Takes county_codes
taken None = Mark

-- a branch or a leaf of a partial tree, or an open leaf
abbrev pub parted : Option Opening → Item
parted (Some first) = Opens first
parted None = Open

-- a head
abbrev pub headed : Format × Version → Item
headed head = Head head.0 head.1

-- the item on a line, where something is wanted
abbrev pub item_on : Wanted → RawLine → Result Item TextKind
item_on want.Head piece = seen headed (head_in piece.bytes piece.ended)
item_on (want.Tolerance format) piece = seen Within (by_words line.tolerance_on piece)
item_on (want.Order format) piece = seen Order (by_words line.order_on piece)
item_on want.Limit piece = seen Limit (by_words line.limit_on piece)
item_on want.Target piece = seen Target (by_words line.target_on piece)
item_on (want.Groups left) piece = seen Grouped (by_words line.group_on piece)
item_on (want.Tree format levels) piece = seen Opens (by_words (line.opening_on format levels) piece)
item_on (want.Takes format levels) piece = seen taken (by_words line.take_on piece)
item_on (want.Part format levels) piece = seen parted (by_words (line.part_on format levels) piece)
item_on (want.PartTakes format levels) piece = seen taken (by_words line.take_on piece)
item_on (want.Allowances left) piece = seen Allows (by_words line.allowance_on piece)
item_on want.End piece = seen (λ _. End) (by_words line.end_on piece)

-- what is wanted if `n` groups follow, or `n` lines of a bound leaf
abbrev pub groups_wanted : ℕ → List Wanted
groups_wanted n = if nat_lt 0 n then want.Groups n ∷ [] else []

abbrev pub allowances_wanted : ℕ → List Wanted
allowances_wanted n = if nat_lt 0 n then want.Allowances n ∷ [] else []

-- what is wanted in the place of what was wanted, after an item
abbrev pub wanted_after : Wanted → Item → List Wanted
wanted_after want.Head (Head format One) = want.Order format ∷ []
wanted_after want.Head (Head format Two) = want.Tolerance format ∷ []
wanted_after (want.Tolerance format) (Within tolerance) = want.Order format ∷ []
wanted_after (want.Order format) (Order county_codes) =
    want.Limit ∷ want.Target ∷ want.Tree format (length county_codes) ∷ want.End ∷ []
wanted_after want.Target (Target (Some groups)) = groups_wanted groups
wanted_after (want.Groups left) item = groups_wanted (left - 1)
wanted_after (want.Tree format levels) (Opens (opening.Branch county limit)) = want.Takes format levels ∷ []
wanted_after (want.Tree format levels) (Opens (opening.Bound lines)) = allowances_wanted lines
wanted_after (want.Takes format levels) (Takes county_codes) =
    want.Tree format (levels - 1) ∷ want.Takes format levels ∷ []
wanted_after (want.Takes format levels) Mark = want.Tree format (after_raise format levels) ∷ []
wanted_after (want.Part format levels) (Opens (opening.Branch county limit)) = want.PartTakes format levels ∷ []
wanted_after (want.Part format levels) (Opens (opening.Bound lines)) = allowances_wanted lines
wanted_after (want.PartTakes format levels) (Takes county_codes) =
    want.Part format (levels - 1) ∷ want.PartTakes format levels ∷ []
wanted_after (want.PartTakes format levels) Mark = want.Part format (after_raise format levels) ∷ []
wanted_after (want.Allowances left) item = allowances_wanted (left - 1)
wanted_after wanted item = []

-- an item in front of others
abbrev pub items_in_front : List Item → Result (List Item) TextFault → Result (List Item) TextFault
items_in_front items (Ok later) = Ok (items ++ later)
items_in_front items (Err fault) = Err fault

-- the items on lines, the first of which has the number n, where these things are wanted in turn; or the first fault
abbrev pub items_from : List Wanted → ℕ → List RawLine → Result (List Item) TextFault
items_from [] n [] = Ok []
items_from [] n (piece ∷ pieces) = Err (text_fault_at AfterEnd n)
items_from (wanted ∷ more) n [] = Err (text_fault_at CutShort n)
items_from (wanted ∷ more) n (piece ∷ pieces) = elim (item_on wanted piece) as (λ _. Result (List Item) TextFault) [
  | Ok item ↦ items_in_front (item ∷ []) (items_from (wanted_after wanted item ++ more) (n + 1) pieces)
  | Err kind ↦ Err (text_fault_at kind n)
]

-- the items of a whole text: of a certificate, or of a tree
abbrev pub certificate_items : List ℕ → Result (List Item) TextFault
certificate_items text = items_from (want.Head ∷ []) 1 (raw_lines text)

abbrev pub tree_items : Format → ℕ → List ℕ → Result (List Item) TextFault
tree_items format counties text = items_from (want.Tree format counties ∷ []) 1 (raw_lines text)
