-- The reading of a text, one line on.
use Rattle.std.proofs.Common.{◌≡◌, ℕ, ◌+◌, ◌<◌, Bool, List, [], ◌∷◌, ◌++◌, length, reverse, Result, Ok, Err, ap, sym, ◌∙◌, arith}
use Rattle.std.proofs.lemmas.Bool.Decides.{nat_tests}
use Rattle.field_lines.specs.RawPieces.{RawLine}
use Rattle.field_lines.specs.Fault.{most_bytes}
use Rattle.certificate_lines.specs.Words.{line_bytes, line_words}
use Rattle.certificate_lines.specs.Rest.{text_fault_at}
use Rattle.certificate_lines.specs.Items.{item_on, wanted_after}
use Rattle.certificate_lines.specs.ItemReadings.{Unread, only_fault, first, reading_from}
use Rattle.certificate_lines.specs.declared.fault.TextKind.{TextKind}
use Rattle.certificate_lines.specs.declared.fault.TextKind.TheVariants.{CutShort, BadWord}
use Rattle.certificate_lines.specs.declared.item.Item.{Item}
use Rattle.certificate_lines.specs.declared.item.Wanted.{Wanted}
use Rattle.certificate_lines.specs.declared.item.Wanted.TheVariants as want
use Rattle.certificate_lines.proofs.ReadLaws.{stacked_one}

-- a line where something is wanted
abbrev line_by : Wanted → ℕ → List RawLine → List Wanted → Result Item TextKind → Unread
line_by w n pieces more r = elim r as (λ _. Unread) [
  | Ok item ↦ first item (reading_from (wanted_after w item ++ more) (n + 1) pieces)
  | Err kind ↦ only_fault (text_fault_at kind n)
]

module _ (w : Wanted) (more : List Wanted) (n : ℕ) (piece : RawLine) (pieces : List RawLine) where
  pub reading_first : (item : Item) → item_on w piece ≡ Ok item → reading_from (w ∷ more) n (piece ∷ pieces) ≡ first item (reading_from (wanted_after w item ++ more) (n + 1) pieces)
  reading_first item e = ap (line_by w n pieces more) e

  pub reading_fault : (kind : TextKind) → item_on w piece ≡ Err kind → reading_from (w ∷ more) n (piece ∷ pieces) ≡ only_fault (text_fault_at kind n)
  reading_fault kind e = ap (line_by w n pieces more) e

-- the same where what is wanted was taken from a stack
module _ (stack below : List Wanted) (w : Wanted) (popped : stack ≡ below ++ w ∷ []) (n : ℕ) (lines : List RawLine) where
  turned : reading_from (reverse stack) n lines ≡ reading_from (w ∷ reverse below) n lines
  turned = ap (λ (l : List Wanted). reading_from l n lines) (stacked_one below stack w popped)

  module _ (piece : RawLine) (pieces : List RawLine) (is : lines ≡ piece ∷ pieces) where
    pub popped_first : (item : Item) (new : List Wanted) (m : ℕ) → item_on w piece ≡ Ok item → reverse new ≡ wanted_after w item ++ reverse below → m ≡ n + 1
        → reading_from (reverse stack) n lines ≡ first item (reading_from (reverse new) m pieces)
    popped_first item new m e stacked number =
        turned ∙ ap (reading_from (w ∷ reverse below) n) is ∙ reading_first w (reverse below) n piece pieces item e
        ∙ ap (λ (l : List Wanted). first item (reading_from l (n + 1) pieces)) (sym stacked)
        ∙ ap (λ (k : ℕ). first item (reading_from (reverse new) k pieces)) (sym number)

    pub popped_fault : (kind : TextKind) → item_on w piece ≡ Err kind → reading_from (reverse stack) n lines ≡ only_fault (text_fault_at kind n)
    popped_fault kind e = turned ∙ ap (reading_from (w ∷ reverse below) n) is ∙ reading_fault w (reverse below) n piece pieces kind e

  pub popped_short : lines ≡ [] → reading_from (reverse stack) n lines ≡ only_fault (text_fault_at CutShort n)
  popped_short is = turned ∙ ap (reading_from (w ∷ reverse below) n) is

-- a line that is too long has no item
long_bytes : (bytes : List ℕ) (ended : Bool) → most_bytes < length bytes → line_bytes bytes ended ≡ Err BadWord
unfolding line_bytes
long_bytes bytes ended long = grind (arith, nat_tests)

long_words : (bytes : List ℕ) (ended : Bool) → most_bytes < length bytes → line_words bytes ended ≡ Err BadWord
unfolding line_words
long_words bytes ended long = rw (long_bytes bytes ended long)

pub too_long : (w : Wanted) (piece : RawLine) → most_bytes < length piece.bytes → item_on w piece ≡ Err BadWord
too_long want.Head piece long = rw (long_bytes piece.bytes piece.ended long)
too_long (want.Tolerance format) piece long = rw (long_words piece.bytes piece.ended long)
too_long (want.Order format) piece long = rw (long_words piece.bytes piece.ended long)
too_long want.Limit piece long = rw (long_words piece.bytes piece.ended long)
too_long want.Target piece long = rw (long_words piece.bytes piece.ended long)
too_long (want.Groups left) piece long = rw (long_words piece.bytes piece.ended long)
too_long (want.Tree format levels) piece long = rw (long_words piece.bytes piece.ended long)
too_long (want.Takes format levels) piece long = rw (long_words piece.bytes piece.ended long)
too_long (want.Part format levels) piece long = rw (long_words piece.bytes piece.ended long)
too_long (want.PartTakes format levels) piece long = rw (long_words piece.bytes piece.ended long)
too_long (want.Allowances left) piece long = rw (long_words piece.bytes piece.ended long)
too_long want.End piece long = rw (long_words piece.bytes piece.ended long)
