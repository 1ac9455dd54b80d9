-- Readings one after the other.
use Rattle.std.proofs.Common.{◌≡◌, ℕ, ◌==◌, ◌+◌, ◌<◌, ◌≤◌, true, false, List, [], ◌∷◌, ◌++◌, length, reverse, Result, Ok, Err, refl, ap, sym, subst, ◌∙◌, append_assoc, append-nil, arith}
use Rattle.std.proofs.lemmas.Bool.Decides.{nat_tests}
use Rattle.std.proofs.lemmas.List.{reverse-append}
use Rattle.std.proofs.lemmas.Grind.{flat_map-append}
use Rattle.field_lines.specs.RawPieces.{RawLine, text_of as raw_text}
use Rattle.field_lines.proofs.TextLemmas.{text_of-raw_lines}
use Rattle.certificate_lines.specs.Rest.{Rest, lines_of, IsTextMemory, TakesTextLine, FaultOf, text_fault_at}
use Rattle.certificate_lines.specs.Items.{by_words, seen, item_on, wanted_after, items_in_front, items_from, allowances_wanted, groups_wanted}
use Rattle.certificate_lines.specs.Spelling.{item_line, text_of_items}
use Rattle.certificate_lines.specs.Reading.{items_at, ReadsItems, Refuses}
use Rattle.certificate_lines.specs.Fitting.{AllFit}
use Rattle.certificate_lines.specs.Words.{line_words}
use Rattle.certificate_lines.specs.Lines as line
use Rattle.certificate_lines.specs.Lines.{most}
use Rattle.certificate_lines.proofs.WordLaws.{bind_ok}
use Rattle.certificate_lines.proofs.FormLaws.{order_few}
use Rattle.certificate_lines.proofs.TextLaws.{item_ok, line_is}
use Rattle.certificate_lines.proofs.FitsLaws.{item_fits}
use Rattle.certificate_lines.specs.declared.fault.TextKind.{TextKind}
use Rattle.certificate_lines.specs.declared.fault.TextKind.TheVariants.{AfterEnd}
use Rattle.certificate_lines.specs.declared.fault.TextFault.{TextFault}
use Rattle.certificate_lines.specs.declared.item.Item.{Item}
use Rattle.certificate_lines.specs.declared.item.Wanted.{Wanted}
use Rattle.certificate_lines.specs.declared.item.Wanted.TheVariants as want

pub in_front-none : (r : Result (List Item) TextFault) → items_in_front [] r ≡ r
in_front-none (Ok items) = refl
in_front-none (Err fault) = refl

pub in_front-twice : (xs ys : List Item) (r : Result (List Item) TextFault) → items_in_front xs (items_in_front ys r) ≡ items_in_front (xs ++ ys) r
in_front-twice xs ys (Ok items) = ap (λ (l : List Item). Ok l) (sym (append_assoc xs ys items))
in_front-twice xs ys (Err fault) = refl

pub reads_none : (wanted : List Wanted) (rest : Rest) → ReadsItems wanted rest [] wanted rest
reads_none wanted rest = record { gives = λ more. sym (in_front-none (items_at (wanted ++ more) rest)); text = refl; fits = λ more later h. h }

pub reads_then : (a b c : List Wanted) (x y z : Rest) (is js : List Item) → ReadsItems a x is b y → ReadsItems b y js c z → ReadsItems a x (is ++ js) c z
reads_then a b c x y z is js first then = record {
  gives = λ more. first.gives more ∙ ap (items_in_front is) (then.gives more) ∙ in_front-twice is js (items_at (c ++ more) z);
  text = first.text ∙ ap (λ (t : List ℕ). text_of_items is ++ t) then.text ∙ sym (append_assoc (text_of_items is) (text_of_items js) z.text) ∙ ap (λ (t : List ℕ). t ++ z.text) (sym (flat_map-append item_line is js));
  fits = λ more later h. subst (λ (l : List Item). AllFit (a ++ more) l) (sym (append_assoc is js later)) (first.fits more (js ++ later) (then.fits more later h));
}

-- the same, where more is wanted after it
pub reads_with : (a b more : List Wanted) (x y : Rest) (is : List Item) → ReadsItems a x is b y → ReadsItems (a ++ more) x is (b ++ more) y
reads_with a b more x y is h = record {
  gives = λ later.
      ap (λ (w : List Wanted). items_at w x) (append_assoc a more later) ∙ h.gives (more ++ later) ∙ ap (λ (w : List Wanted). items_in_front is (items_at w y)) (sym (append_assoc b more later));
  text = h.text;
  fits = λ later items g.
      subst (λ (w : List Wanted). AllFit w (is ++ items)) (sym (append_assoc a more later)) (h.fits (more ++ later) items (subst (λ (w : List Wanted). AllFit w items) (append_assoc b more later) g));
}

pub reads_refuse : (a b : List Wanted) (x y : Rest) (is : List Item) (fault : TextFault) → ReadsItems a x is b y → Refuses b y fault → Refuses a x fault
reads_refuse a b x y is fault first then mem more = first.gives more ∙ ap (items_in_front is) (then mem more)

-- one line is read
abbrev line_by : Wanted → ℕ → List RawLine → List Wanted → Result Item TextKind → Result (List Item) TextFault
line_by w n pieces more r = elim r as (λ _. Result (List Item) TextFault) [
  | Ok item ↦ items_in_front (item ∷ []) (items_from (wanted_after w item ++ more) (n + 1) pieces)
  | Err kind ↦ Err (text_fault_at kind n)
]

line_go : (w : Wanted) (item : Item) (n : ℕ) (piece : RawLine) (pieces : List RawLine) (more : List Wanted) → item_on w piece ≡ Ok item
    → items_from (w ∷ more) n (piece ∷ pieces) ≡ items_in_front (item ∷ []) (items_from (wanted_after w item ++ more) (n + 1) pieces)
line_go w item n piece pieces more e = ap (line_by w n pieces more) e

seen_value : {X Y : Type 0} (view : X → Y) (r : Result X TextKind) (x : X) → r ≡ Ok x → seen view r ≡ Ok (view x)
seen_value view r x e = ap (seen view) e

seen_fault : {X Y : Type 0} (view : X → Y) (r : Result X TextKind) (kind : TextKind) → r ≡ Err kind → seen view r ≡ Err kind
seen_fault view r kind e = ap (seen view) e

module _ {X : Type 0} (w : Wanted) (read : RawLine → Result X TextKind) (view : X → Item) (same : (piece : RawLine) → item_on w piece ≡ seen view (read piece)) where
  pub reads_line : (x : X) (old new : Rest) → TakesTextLine read x old new → ReadsItems (w ∷ []) old (view x ∷ []) (wanted_after w (view x)) new
  reads_line x old new takes =
      let item : item_on w takes.piece ≡ Ok (view x) = same takes.piece ∙ seen_value view (read takes.piece) x takes.value in
      record {
        gives = λ more.
            ap (λ (l : List RawLine). items_from (w ∷ more) old.number l) takes.lines
            ∙ line_go w (view x) old.number takes.piece (lines_of new) more item
            ∙ ap (λ (n : ℕ). items_in_front (view x ∷ []) (items_from (wanted_after w (view x) ++ more) n (lines_of new))) (sym takes.number);
        text =
            takes.text
            ∙ ap (λ (t : List ℕ). t ++ new.text) (line_is takes.piece (view x) (item_ok w takes.piece (view x) item) ∙ sym (append-nil (item_line (view x))));
        fits = λ more later h. (item_fits w takes.piece (view x) item, h);
      }

  -- what was read is the item of the line
  pub took_line : (x : X) (old new : Rest) → TakesTextLine read x old new → TakesTextLine (item_on w) (view x) old new
  took_line x old new takes = record {
    piece = takes.piece;
    lines = takes.lines;
    value = same takes.piece ∙ seen_value view (read takes.piece) x takes.value;
    number = takes.number;
    text = takes.text;
    shorter = takes.shorter;
  }

  fault_go : (n : ℕ) (pieces : List RawLine) (fault : TextFault) (more : List Wanted) → FaultOf read n pieces fault → items_from (w ∷ more) n pieces ≡ Err fault
  fault_go n [] fault more h = ap (λ (f : TextFault). Err f) (sym h)
  fault_go n (piece ∷ pieces) fault more h =
      let item : item_on w piece ≡ Err fault.kind = same piece ∙ seen_fault view (read piece) fault.kind h.0 in
      ap (line_by w n pieces more) item ∙ ap (λ (l : ℕ). Err (text_fault_at fault.kind l)) (sym h.1)

  pub refuses_line : (old : Rest) (fault : TextFault) → ((IsTextMemory fault → ⊥) → FaultOf read old.number (lines_of old) fault) → Refuses (w ∷ []) old fault
  refuses_line old fault h mem more = fault_go old.number (lines_of old) fault more (h mem)

-- the fault of the first line
pub fault_first : {X : Type 0} (read : RawLine → Result X TextKind) (old : Rest) (piece : RawLine) (pieces : List RawLine) (fault : TextFault)
    → lines_of old ≡ piece ∷ pieces → read piece ≡ Err fault.kind → fault.line ≡ old.number → FaultOf read old.number (lines_of old) fault
fault_first read old piece pieces fault lines kind line = subst (λ (ps : List RawLine). FaultOf read old.number ps fault) (sym lines) (kind, line)

-- `n` groups or lines are left
pub allowances_more : (n : ℕ) → 0 < n → allowances_wanted n ≡ want.Allowances n ∷ []
allowances_more n some = grind (arith, nat_tests)

pub allowances_none : allowances_wanted 0 ≡ []
allowances_none = refl

pub groups_more : (n : ℕ) → 0 < n → groups_wanted n ≡ want.Groups n ∷ []
groups_more n some = grind (arith, nat_tests)

-- bytes after the end
ended_go : (rest : Rest) (pieces : List RawLine) → lines_of rest ≡ pieces → (length rest.text == 0) ≡ false → items_at [] rest ≡ Err (text_fault_at AfterEnd rest.number)
ended_go rest [] e some =
    let none : rest.text ≡ [] = sym (text_of-raw_lines rest.number rest.text) ∙ ap raw_text e in
    let zero : (length rest.text == 0) ≡ true = ap (λ (l : List ℕ). length l == 0) none in
    cc
ended_go rest (piece ∷ pieces) e some = ap (items_from [] rest.number) e

pub ended_fault : (rest : Rest) → (length rest.text == 0) ≡ false → items_at [] rest ≡ Err (text_fault_at AfterEnd rest.number)
ended_fault rest some = ended_go rest (lines_of rest) refl some

-- an order that was read has few codes
pub order_taken : (cs : List ℕ) (old new : Rest) → TakesTextLine (by_words line.order_on) cs old new → length cs ≤ most
order_taken cs old new taken =
    let w = bind_ok (line_words taken.piece.bytes taken.piece.ended) line.order_on cs taken.value in
    order_few w.value cs w.then

-- what was put on the stack lies on its top: one thing, two or four
pub stacked_one : (old new : List Wanted) (x : Wanted) → new ≡ old ++ x ∷ [] → reverse new ≡ x ∷ reverse old
stacked_one old new x e = ap reverse e ∙ reverse-append old (x ∷ [])

pub stacked_two : (old new : List Wanted) (x y : Wanted) → new ≡ old ++ x ∷ y ∷ [] → reverse new ≡ y ∷ x ∷ reverse old
stacked_two old new x y e = ap reverse e ∙ reverse-append old (x ∷ y ∷ [])

pub stacked_four : (old new : List Wanted) (x y z t : Wanted) → new ≡ old ++ x ∷ y ∷ z ∷ t ∷ [] → reverse new ≡ t ∷ z ∷ y ∷ x ∷ reverse old
stacked_four old new x y z t e = ap reverse e ∙ reverse-append old (x ∷ y ∷ z ∷ t ∷ [])
