-- The items of a text one at a time.
use Rattle.std.proofs.Common.{◌≡◌, ℕ, ◌+◌, List, [], ◌∷◌, ◌++◌, Option, Some, None, Result, Ok, Err, refl, ap, sym, ◌∙◌}
use Rattle.field_lines.specs.RawPieces.{RawLine}
use Rattle.certificate_lines.specs.Rest.{Rest, lines_of, text_fault_at, TakesTextLine, FaultOf}
use Rattle.certificate_lines.specs.Items.{item_on, wanted_after, items_in_front, items_from}
use Rattle.certificate_lines.specs.Reading.{items_at}
use Rattle.certificate_lines.specs.ItemReadings.{Unread, nothing, only_fault, first, reading_from, whole}
use Rattle.certificate_lines.specs.declared.fault.TextKind.{TextKind}
use Rattle.certificate_lines.specs.declared.fault.TextKind.TheVariants.{AfterEnd}
use Rattle.certificate_lines.specs.declared.fault.TextFault.{TextFault}
use Rattle.certificate_lines.specs.declared.item.Item.{Item}
use Rattle.certificate_lines.specs.declared.item.Wanted.{Wanted}

-- what a line leads to
abbrev reading_by : Wanted → ℕ → List RawLine → List Wanted → Result Item TextKind → Unread
reading_by w n pieces more r = elim r as (λ _. Unread) [
  | Ok item ↦ first item (reading_from (wanted_after w item ++ more) (n + 1) pieces)
  | Err kind ↦ only_fault (text_fault_at kind n)
]

-- an item is taken
pub reading_line : (w : Wanted) (item : Item) (more : List Wanted) (old new : Rest) → TakesTextLine (item_on w) item old new
    → reading_from (w ∷ more) old.number (lines_of old) ≡ first item (reading_from (wanted_after w item ++ more) new.number (lines_of new))
reading_line w item more old new takes =
    ap (λ (l : List RawLine). reading_from (w ∷ more) old.number l) takes.lines
    ∙ ap (reading_by w old.number (lines_of new) more) takes.value
    ∙ ap (λ (n : ℕ). first item (reading_from (wanted_after w item ++ more) n (lines_of new))) (sym takes.number)

-- a fault is found
pub reading_fault : (w : Wanted) (more : List Wanted) (n : ℕ) (pieces : List RawLine) (fault : TextFault) → FaultOf (item_on w) n pieces fault → reading_from (w ∷ more) n pieces ≡ only_fault fault
reading_fault w more n [] fault h = ap only_fault (sym h)
reading_fault w more n (piece ∷ pieces) fault h = ap (reading_by w n pieces more) h.0 ∙ ap (λ (l : ℕ). only_fault (text_fault_at fault.kind l)) (sym h.1)

-- what is left where nothing is wanted
reading_end : (n : ℕ) (pieces : List RawLine) → items_from [] n pieces ≡ Ok [] → reading_from [] n pieces ≡ nothing
reading_end n [] h = refl
reading_end n (piece ∷ pieces) h = cc

pub reading_ended : (rest : Rest) → items_at [] rest ≡ Ok [] → reading_from [] rest.number (lines_of rest) ≡ nothing
reading_ended rest h = reading_end rest.number (lines_of rest) h

reading_over : (n : ℕ) (pieces : List RawLine) (fault : TextFault) → items_from [] n pieces ≡ Err fault → reading_from [] n pieces ≡ only_fault fault
reading_over n [] fault h = cc
reading_over n (piece ∷ pieces) fault h =
    let same : text_fault_at AfterEnd n ≡ fault = cc in
    ap only_fault same

pub reading_after : (rest : Rest) (fault : TextFault) → items_at [] rest ≡ Err fault → reading_from [] rest.number (lines_of rest) ≡ only_fault fault
reading_after rest fault h = reading_over rest.number (lines_of rest) fault h

-- the items of a text are those that come one at a time, where no fault ends them
one_first : (item : Item) (items : List Item) (fault : Option TextFault) → whole (item ∷ items) fault ≡ items_in_front (item ∷ []) (whole items fault)
one_first item items None = refl
one_first item items (Some fault) = refl

pub readings_are_items : (wanted : List Wanted) (n : ℕ) (pieces : List RawLine) → whole (reading_from wanted n pieces).items (reading_from wanted n pieces).fault ≡ items_from wanted n pieces
readings_are_items [] n [] = refl
readings_are_items [] n (piece ∷ pieces) = refl
readings_are_items (w ∷ more) n [] = refl
readings_are_items (w ∷ more) n (piece ∷ pieces) = go (λ item. readings_are_items (wanted_after w item ++ more) (n + 1) pieces) (item_on w piece)
  where
    go : ((item : Item) → whole (reading_from (wanted_after w item ++ more) (n + 1) pieces).items (reading_from (wanted_after w item ++ more) (n + 1) pieces).fault ≡ items_from (wanted_after w item ++ more) (n + 1) pieces)
        → (r : Result Item TextKind) → whole (reading_by w n pieces more r).items (reading_by w n pieces more r).fault ≡ (elim r as (λ _. Result (List Item) TextFault) [
          | Ok item ↦ items_in_front (item ∷ []) (items_from (wanted_after w item ++ more) (n + 1) pieces)
          | Err kind ↦ Err (text_fault_at kind n)
        ])
    go later (Ok item) =
        one_first item (reading_from (wanted_after w item ++ more) (n + 1) pieces).items (reading_from (wanted_after w item ++ more) (n + 1) pieces).fault ∙ ap (items_in_front (item ∷ [])) (later item)
    go later (Err kind) = refl
