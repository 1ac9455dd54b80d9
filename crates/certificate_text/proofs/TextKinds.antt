-- The fault of a text is never that memory was refused or that a source could not be read.
use Rattle.std.proofs.Common.{ℕ, ◌+◌, cond, Bool, true, false, List, [], ◌∷◌, ◌++◌, codes, Option, Some, None, Result, Ok, Err}
use Rattle.std.specs.Prelude.{nat_eq}
use Rattle.std.specs.Cmp.Lexicographic.{pointwise}
use Rattle.field_lines.specs.Chain.{◌>>=◌}
use Rattle.field_lines.specs.RawPieces.{RawLine}
use Rattle.certificate_lines.specs.Words.{line_bytes}
use Rattle.certificate_lines.specs.Lines as line
use Rattle.certificate_lines.specs.Items.{by_words, head_in, headed, seen, taken, parted, item_on, wanted_after}
use Rattle.certificate_lines.proofs.LineKinds.{OfLine, Said, words_then_said, bytes_said, tolerance_said, order_said, limit_said, target_said, group_said, opening_said, part_said, take_said, allowance_said, end_said}
use Rattle.certificate_lines.specs.ItemReadings.{Unread, only_fault, first, reading_from}
use Rattle.certificate_lines.specs.Rest.{text_fault_at}
use Rattle.certificate_lines.specs.declared.fault.TextKind.{TextKind}
use Rattle.certificate_lines.specs.declared.fault.TextKind.TheVariants.{BadHead, BadWord, BadNumber, NotCanonical, CutShort, AfterEnd, TooDeep, ReadFault, Memory}
use Rattle.certificate_lines.specs.declared.fault.TextFault.{TextFault}
use Rattle.certificate_lines.specs.declared.item.Item.{Item}
use Rattle.certificate_lines.specs.declared.item.Item.TheVariants as item
use Rattle.certificate_lines.specs.declared.item.Wanted.{Wanted}
use Rattle.certificate_lines.specs.declared.item.Wanted.TheVariants as want

-- a kind that lines alone decide
abbrev pub OfText : TextKind → Type 0
OfText Memory = ⊥
OfText ReadFault = ⊥
OfText kind = Unit {0}

-- so is a kind that a line behind the head may have
of_line : (kind : TextKind) → OfLine kind → OfText kind
of_line BadWord a = tt
of_line BadNumber a = tt
of_line NotCanonical a = tt
of_line CutShort a = tt
of_line TooDeep a = tt
of_line BadHead a = absurd a
of_line AfterEnd a = absurd a
of_line ReadFault a = absurd a
of_line Memory a = absurd a

abbrev SaidText : {X : Type 0} → Result X TextKind → Type 0
SaidText (Ok x) = Unit {0}
SaidText (Err kind) = OfText kind

said_text : {X : Type 0} (r : Result X TextKind) → Said r → SaidText r
said_text (Ok x) a = tt
said_text (Err kind) a = of_line kind a

cond_text : {X : Type 0} (t : Bool) (r s : Result X TextKind) → SaidText r → SaidText s → SaidText (cond t r s)
cond_text true r s a b = a
cond_text false r s a b = b

bind_text : {X Y : Type 0} (r : Result X TextKind) (f : X → Result Y TextKind) → SaidText r → ((x : X) → SaidText (f x)) → SaidText (r >>= f)
bind_text (Ok x) f a b = b x
bind_text (Err kind) f a b = a

seen_text : {X Y : Type 0} (view : X → Y) (r : Result X TextKind) → SaidText r → SaidText (seen view r)
seen_text view (Ok x) a = tt
seen_text view (Err kind) a = a

head_text : (bytes : List ℕ) → SaidText (line.head_on bytes)
unfolding line.head_on
head_text bytes =
    cond_text (pointwise nat_eq bytes (codes "county-groups certificate 1")) _ _ tt
    (cond_text (pointwise nat_eq bytes (codes "county-groups wide certificate 1")) _ _ tt
    (cond_text (pointwise nat_eq bytes (codes "county-groups certificate 2")) _ _ tt (cond_text (pointwise nat_eq bytes (codes "county-groups wide certificate 2")) _ _ tt tt)))

by_words_text : {X : Type 0} (read : List (List ℕ) → Result X TextKind) (view : X → Item) (piece : RawLine) → ((words : List (List ℕ)) → Said (read words)) → SaidText (seen view (by_words read piece))
by_words_text read view piece h = seen_text view (by_words read piece) (said_text (by_words read piece) (words_then_said read piece h))

item_text : (wanted : Wanted) (piece : RawLine) → SaidText (item_on wanted piece)
item_text want.Head piece = seen_text headed (head_in piece.bytes piece.ended) (bind_text (line_bytes piece.bytes piece.ended) line.head_on (said_text (line_bytes piece.bytes piece.ended) (bytes_said piece.bytes piece.ended)) head_text)
item_text (want.Tolerance format) piece = by_words_text line.tolerance_on item.Within piece tolerance_said
item_text (want.Order format) piece = by_words_text line.order_on item.Order piece order_said
item_text want.Limit piece = by_words_text line.limit_on item.Limit piece limit_said
item_text want.Target piece = by_words_text line.target_on item.Target piece target_said
item_text (want.Groups left) piece = by_words_text line.group_on item.Grouped piece group_said
item_text (want.Tree format levels) piece = by_words_text (line.opening_on format levels) item.Opens piece (opening_said format levels)
item_text (want.Takes format levels) piece = by_words_text line.take_on taken piece take_said
item_text (want.Part format levels) piece = by_words_text (line.part_on format levels) parted piece (part_said format levels)
item_text (want.PartTakes format levels) piece = by_words_text line.take_on taken piece take_said
item_text (want.Allowances left) piece = by_words_text line.allowance_on item.Allows piece allowance_said
item_text want.End piece = by_words_text line.end_on (λ _. item.End) piece end_said

abbrev pub SaidFault : Option TextFault → Type 0
SaidFault None = Unit {0}
SaidFault (Some fault) = OfText fault.kind

abbrev reading_by : Wanted → ℕ → List RawLine → List Wanted → Result Item TextKind → Unread
reading_by w n pieces more r = elim r as (λ _. Unread) [
  | Ok i ↦ first i (reading_from (wanted_after w i ++ more) (n + 1) pieces)
  | Err kind ↦ only_fault (text_fault_at kind n)
]

-- the first fault where things are wanted in turn
pub reading_said : (wanted : List Wanted) (n : ℕ) (pieces : List RawLine) → SaidFault (reading_from wanted n pieces).fault
reading_said [] n [] = tt
reading_said [] n (piece ∷ pieces) = tt
reading_said (w ∷ more) n [] = tt
reading_said (w ∷ more) n (piece ∷ pieces) = go (λ i. reading_said (wanted_after w i ++ more) (n + 1) pieces) (item_on w piece) (item_text w piece)
  where
    go : ((i : Item) → SaidFault (reading_from (wanted_after w i ++ more) (n + 1) pieces).fault) → (r : Result Item TextKind) → SaidText r → SaidFault (reading_by w n pieces more r).fault
    go later (Ok i) said = later i
    go later (Err kind) said = said
