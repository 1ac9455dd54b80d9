-- How many LFs stand in texts whose items are read.
use Rattle.std.proofs.Common.{◌≡◌, ℕ, ◌+◌, ◌≤◌, cond, Bool, true, false, List, [], ◌∷◌, ◌++◌, length, Option, Some, None, Result, Ok, Err, refl, ap, sym, subst, arith}
use Rattle.std.specs.List.{AllByRecursion, join_with_byte}
use Rattle.std.proofs.lemmas.Bool.{ne_eqb}
use Rattle.std.proofs.lemmas.List.Sums.{sum_by-cons, sum_by-append}
use Rattle.field_lines.specs.RawPieces.{RawLine, is_lf, bytes_of, raw_lines, text_of as raw_text}
use Rattle.field_lines.proofs.TextLemmas.{text_of-raw_lines}
use Rattle.certificate_lines.specs.Items.{item_on, wanted_after}
use Rattle.certificate_lines.specs.ItemReadings.{Unread, only_fault, first, reading_from, certificate_reading}
use Rattle.certificate_lines.specs.Rest.{text_fault_at}
use Rattle.certificate_lines.specs.Spelling.{item_words, item_line, text_of_items}
use Rattle.certificate_lines.specs.Fitting.{AllFit}
use Rattle.certificate_lines.specs.declared.fault.TextKind.{TextKind}
use Rattle.certificate_lines.specs.declared.fault.TextFault.{TextFault}
use Rattle.certificate_lines.specs.declared.item.Item.{Item}
use Rattle.certificate_lines.specs.declared.item.Wanted.{Wanted}
use Rattle.certificate_lines.specs.declared.item.Wanted.TheVariants as want
use Rattle.certificate_lines.proofs.TextLaws.{item_ok}
use Rattle.certificate_text.proofs.SpellLaws.{Printed}
use Rattle.certificate_text.proofs.TextBack.{fits_line}
use Rattle.checker_laws.specs.TextVerdict.{HasTextFault}
use Rattle.checker_laws.specs.TextCost.{line_feeds}

-- 1 for an LF
abbrev fed : ℕ → ℕ
fed b = cond (is_lf b) 1 0

feeds_append : (xs ys : List ℕ) → line_feeds (xs ++ ys) ≡ line_feeds xs + line_feeds ys
feeds_append xs ys = sum_by-append fed xs ys

ended_feeds : (piece : RawLine) → piece.ended ≡ true → 1 ≤ line_feeds (bytes_of piece)
ended_feeds piece e =
    let one : 1 ≤ line_feeds (piece.bytes ++ 10 ∷ []) = omega (arith, feeds_append piece.bytes (10 ∷ [])) in
    subst (λ (b : Bool). 1 ≤ line_feeds (cond b (piece.bytes ++ 10 ∷ []) piece.bytes)) (sym e) one

-- what a line leads to
abbrev reading_by : Wanted → ℕ → List RawLine → List Wanted → Result Item TextKind → Unread
reading_by w n pieces more r = elim r as (λ _. Unread) [
  | Ok i ↦ first i (reading_from (wanted_after w i ++ more) (n + 1) pieces)
  | Err kind ↦ only_fault (text_fault_at kind n)
]

-- an LF ends each line from which an item is read
items_few : (wanted : List Wanted) (n : ℕ) (pieces : List RawLine) → length (reading_from wanted n pieces).items ≤ line_feeds (raw_text pieces)
items_few [] n [] = omega arith
items_few [] n (piece ∷ pieces) = omega arith
items_few (w ∷ more) n [] = omega arith
items_few (w ∷ more) n (piece ∷ pieces) = go (λ i. items_few (wanted_after w i ++ more) (n + 1) pieces) (item_on w piece) refl
  where
    go : ((i : Item) → length (reading_from (wanted_after w i ++ more) (n + 1) pieces).items ≤ line_feeds (raw_text pieces))
        → (r : Result Item TextKind) → item_on w piece ≡ r → length (reading_by w n pieces more r).items ≤ line_feeds (raw_text (piece ∷ pieces))
    go later (Ok i) e = omega (arith, later i, ended_feeds piece (item_ok w piece i e).ended, feeds_append (bytes_of piece) (raw_text pieces))
    go later (Err kind) e = omega arith

-- the fault stands on the line behind those of the items
abbrev StandsBehind : ℕ → List Item → Option TextFault → Type 0
StandsBehind n items None = Unit {0}
StandsBehind n items (Some fault) = fault.line ≡ n + length items

stands_later : (n : ℕ) (i : Item) (items : List Item) (fault : Option TextFault) → StandsBehind (n + 1) items fault → StandsBehind n (i ∷ items) fault
stands_later n i items None h = tt
stands_later n i items (Some fault) h = omega (arith, h)

fault_behind : (wanted : List Wanted) (n : ℕ) (pieces : List RawLine) → StandsBehind n (reading_from wanted n pieces).items (reading_from wanted n pieces).fault
fault_behind [] n [] = tt
fault_behind [] n (piece ∷ pieces) = omega arith
fault_behind (w ∷ more) n [] = omega arith
fault_behind (w ∷ more) n (piece ∷ pieces) = go (λ i. fault_behind (wanted_after w i ++ more) (n + 1) pieces) (item_on w piece)
  where
    go : ((i : Item) → StandsBehind (n + 1) (reading_from (wanted_after w i ++ more) (n + 1) pieces).items (reading_from (wanted_after w i ++ more) (n + 1) pieces).fault)
        → (r : Result Item TextKind) → StandsBehind n (reading_by w n pieces more r).items (reading_by w n pieces more r).fault
    go later (Ok i) = stands_later n i (reading_from (wanted_after w i ++ more) (n + 1) pieces).items (reading_from (wanted_after w i ++ more) (n + 1) pieces).fault (later i)
    go later (Err kind) = omega arith

pub fault_line : (text : List ℕ) (fault : TextFault) → HasTextFault text fault → fault.line ≡ 1 + length (certificate_reading text).items
fault_line text fault h = subst (λ (f : Option TextFault). StandsBehind 1 (certificate_reading text).items f) h (fault_behind (want.Head ∷ []) 1 (raw_lines text))

pub lines : (text : List ℕ) → length (certificate_reading text).items ≤ line_feeds text
lines text = subst (λ (t : List ℕ). length (certificate_reading text).items ≤ line_feeds t) (text_of-raw_lines 1 text) (items_few (want.Head ∷ []) 1 (raw_lines text))

printed_feeds : (bytes : List ℕ) → AllByRecursion Printed bytes → line_feeds bytes ≡ 0
printed_feeds [] a = refl
printed_feeds (b ∷ bytes) a =
    let none : is_lf b ≡ false = ne_eqb b 10 (λ e. omega (arith, e, a.0.from)) in
    let zero : fed b ≡ 0 = ap (λ (t : Bool). cond t 1 0) none in
    omega (arith, sum_by-cons fed b bytes, zero, printed_feeds bytes a.1)

-- the text of items that fit has an LF for each
pub text_feeds : (wanted : List Wanted) (items : List Item) → AllFit wanted items → line_feeds (text_of_items items) ≡ length items
text_feeds [] [] f = refl
text_feeds [] (i ∷ items) f = absurd f
text_feeds (w ∷ more) [] f = absurd f
text_feeds (w ∷ more) (i ∷ items) f =
    let printed = printed_feeds (join_with_byte 32 (item_words i)) (fits_line 1 w i f.0).printed in
    omega (arith, feeds_append (item_line i) (text_of_items items), feeds_append (join_with_byte 32 (item_words i)) (10 ∷ []), printed, text_feeds (wanted_after w i ++ more) items f.1)
