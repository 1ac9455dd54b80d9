-- A text whose items are read is the text of those items.
use Rattle.std.proofs.Common.{◌≡◌, ℕ, ◌+◌, cond, Bool, true, false, List, [], ◌∷◌, ◌++◌, Result, Ok, Err, refl, ap, sym, subst, ◌∙◌, not}
use Rattle.std.specs.Prelude.{nat_lt, nat_eq, length}
use Rattle.std.specs.List.{join_with_byte}
use Rattle.std.specs.Cmp.Lexicographic.{pointwise, bytes_decides}
use Rattle.std.proofs.lemmas.List.Splits.{join_with_byte-slice_split}
use Rattle.field_lines.specs.Fault.{most_bytes}
use Rattle.field_lines.specs.RawPieces.{RawLine, raw_lines_from, bytes_of, text_of as raw_text}
use Rattle.field_lines.proofs.TextLemmas.{text_of-raw_lines}
use Rattle.certificate_lines.specs.Words.{words_of, line_bytes, line_words, is_canonical}
use Rattle.certificate_lines.specs.Lines as line
use Rattle.certificate_lines.specs.Items.{by_words, head_in, headed, seen, taken, parted, item_on, wanted_after, items_in_front, items_from}
use Rattle.certificate_lines.specs.Rest.{text_fault_at}
use Rattle.certificate_lines.specs.Spelling.{item_words, item_line, text_of_items}
use Rattle.certificate_lines.proofs.WordLaws.{bind_ok}
use Rattle.certificate_lines.proofs.FormLaws.{tolerance_ok, order_ok, limit_ok, target_ok, group_ok, opening_ok, part_ok, take_ok, allowance_ok, end_ok}
use Rattle.certificate_lines.specs.declared.fault.TextKind.{TextKind}
use Rattle.certificate_lines.specs.declared.fault.TextKind.TheVariants.{BadWord, NotCanonical, CutShort}
use Rattle.certificate_lines.specs.declared.fault.TextFault.{TextFault}
use Rattle.certificate_data.specs.declared.format.Format.{Format}
use Rattle.certificate_data.specs.declared.format.Format.TheVariants.{Plain, Wide}
use Rattle.certificate_lines.specs.declared.item.Version.{Version}
use Rattle.certificate_lines.specs.declared.item.Version.TheVariants.{One, Two}
use Rattle.certificate_lines.specs.declared.item.Item.{Item}
use Rattle.certificate_lines.specs.declared.item.Item.TheVariants.{Within, Order, Limit, Target, Grouped, Opens, Allows, End}
use Rattle.certificate_lines.specs.declared.item.Wanted.{Wanted}
use Rattle.certificate_lines.specs.declared.item.Wanted.TheVariants as want

-- a text is its first piece and the rest
pub piece_whole : (n : ℕ) (text bytes : List ℕ) (ended : Bool) (rest : List ℕ) → raw_lines_from n text ≡ record { number = n; bytes = bytes; ended = ended } ∷ raw_lines_from (n + 1) rest
    → text ≡ bytes_of (record { number = n; bytes = bytes; ended = ended }) ++ rest
piece_whole n text bytes ended rest cut =
    sym (text_of-raw_lines n text) ∙ ap raw_text cut ∙ ap (λ (t : List ℕ). bytes_of (record { number = n; bytes = bytes; ended = ended }) ++ t) (text_of-raw_lines (n + 1) rest)

bytes_go : (line bytes : List ℕ) (ended p q : Bool) → nat_lt most_bytes (length line) ≡ p → ended ≡ q
    → cond p (Err BadWord) (cond (not q) (Err CutShort) (Ok line)) ≡ Ok bytes → (ended ≡ true) × (line ≡ bytes)
bytes_go line bytes ended true q e f h = cc
bytes_go line bytes ended false false e f h = cc
bytes_go line bytes ended false true e f h = (f, cc)

pub line_bytes_ok : (line bytes : List ℕ) (ended : Bool) → line_bytes line ended ≡ Ok bytes → (ended ≡ true) × (line ≡ bytes)
unfolding line_bytes
line_bytes_ok line bytes ended h = bytes_go line bytes ended _ _ refl refl h

canonical_go : (bytes : List ℕ) (words : List (List ℕ)) (t : Bool) → is_canonical bytes ≡ t → cond t (Ok (words_of bytes)) (Err NotCanonical) ≡ Ok words → words_of bytes ≡ words
canonical_go bytes words false e h = cc
canonical_go bytes words true e h = cc

-- the words of a line make it
pub line_words_ok : (line : List ℕ) (ended : Bool) (words : List (List ℕ)) → line_words line ended ≡ Ok words → (ended ≡ true) × (join_with_byte 32 words ≡ line)
unfolding line_words
line_words_ok line ended words h =
    let a = bind_ok (line_bytes line ended) _ words h in
    let b = line_bytes_ok line a.value ended a.first in
    let is = canonical_go a.value words _ refl a.then in
    (b.0, ap (λ (ws : List (List ℕ)). join_with_byte 32 ws) (sym is) ∙ join_with_byte-slice_split 32 a.value ∙ sym b.1)

-- what is seen was said
pub record Said {X Y : Type 0} (view : X → Y) (r : Result X TextKind) (y : Y) : Type 0 where
  pub value : X
  pub first : r ≡ Ok value
  pub view_is : view value ≡ y

pub seen_ok : {X Y : Type 0} (view : X → Y) (r : Result X TextKind) (y : Y) → seen view r ≡ Ok y → Said view r y
seen_ok view (Ok x) y h = record { value = x; first = refl; view_is = cc }
seen_ok view (Err e) y h = cc

-- an item's line
pub record LineIs (piece : RawLine) (item : Item) : Type 0 where
  pub ended : piece.ended ≡ true
  pub bytes : join_with_byte 32 (item_words item) ≡ piece.bytes

by_words_ok : {X : Type 0} (read : List (List ℕ) → Result X TextKind) (view : X → Item) (piece : RawLine) (item : Item)
    → ((words : List (List ℕ)) (x : X) → read words ≡ Ok x → words ≡ item_words (view x)) → seen view (by_words read piece) ≡ Ok item → LineIs piece item
by_words_ok read view piece item law h =
    let s = seen_ok view (by_words read piece) item h in
    let w = bind_ok (line_words piece.bytes piece.ended) read s.value s.first in
    let l = line_words_ok piece.bytes piece.ended w.value w.first in
    let is : w.value ≡ item_words item = law w.value s.value w.then ∙ ap item_words s.view_is in
    record { ended = l.0; bytes = ap (λ (ws : List (List ℕ)). join_with_byte 32 ws) (sym is) ∙ l.1 }

module _ (bytes : List ℕ) (head : Format × Version) where
  abbrev IsHead : Type 0
  IsHead = join_with_byte 32 (item_words (headed head)) ≡ bytes

  -- this head stands there, or the others are left
  one_head : (is : Format × Version) (others : Result (Format × Version) TextKind) (t : Bool) → pointwise nat_eq bytes (join_with_byte 32 (item_words (headed is))) ≡ t
      → (others ≡ Ok head → IsHead) → cond t (Ok is) others ≡ Ok head → IsHead
  one_head is others true e later h =
      let same : is ≡ head = cc in
      subst (λ (l : Format × Version). join_with_byte 32 (item_words (headed l)) ≡ bytes) same (sym ((bytes_decides bytes (join_with_byte 32 (item_words (headed is)))).0 e))
  one_head is others false e later h = later h

  head_ok : line.head_on bytes ≡ Ok head → IsHead
  unfolding line.head_on
  head_ok h = one_head (Plain, One) _ _ refl (one_head (Wide, One) _ _ refl (one_head (Plain, Two) _ _ refl (one_head (Wide, Two) _ _ refl (λ none. cc (none))))) h

pub item_ok : (wanted : Wanted) (piece : RawLine) (item : Item) → item_on wanted piece ≡ Ok item → LineIs piece item
item_ok want.Head piece item h =
    let s = seen_ok headed (head_in piece.bytes piece.ended) item h in
    let b = bind_ok (line_bytes piece.bytes piece.ended) line.head_on s.value s.first in
    let l = line_bytes_ok piece.bytes b.value piece.ended b.first in
    record { ended = l.0; bytes = ap (λ (i : Item). join_with_byte 32 (item_words i)) (sym s.view_is) ∙ head_ok b.value s.value b.then ∙ sym l.1 }
item_ok (want.Tolerance format) piece item h = by_words_ok line.tolerance_on Within piece item tolerance_ok h
item_ok (want.Order format) piece item h = by_words_ok line.order_on Order piece item order_ok h
item_ok want.Limit piece item h = by_words_ok line.limit_on Limit piece item limit_ok h
item_ok want.Target piece item h = by_words_ok line.target_on Target piece item target_ok h
item_ok (want.Groups left) piece item h = by_words_ok line.group_on Grouped piece item group_ok h
item_ok (want.Tree format levels) piece item h = by_words_ok (line.opening_on format levels) Opens piece item (λ words x e. opening_ok format levels words x e) h
item_ok (want.Takes format levels) piece item h = by_words_ok line.take_on taken piece item take_ok h
item_ok (want.Part format levels) piece item h = by_words_ok (line.part_on format levels) parted piece item (λ words x e. part_ok format levels words x e) h
item_ok (want.PartTakes format levels) piece item h = by_words_ok line.take_on taken piece item take_ok h
item_ok (want.Allowances left) piece item h = by_words_ok line.allowance_on Allows piece item allowance_ok h
item_ok want.End piece item h = by_words_ok line.end_on (λ _. End) piece item end_ok h

-- the bytes of a line, with its LF, are the item's
pub line_is : (piece : RawLine) (item : Item) → LineIs piece item → bytes_of piece ≡ item_line item
line_is piece item is = rw is.ended (ap (λ (bytes : List ℕ). bytes ++ 10 ∷ []) (sym is.bytes))

pub record InFront (item : Item) (later : Result (List Item) TextFault) (items : List Item) : Type 0 where
  pub others : List Item
  pub is : later ≡ Ok others
  pub all : item ∷ others ≡ items

pub in_front_ok : (item : Item) (later : Result (List Item) TextFault) (items : List Item) → items_in_front (item ∷ []) later ≡ Ok items → InFront item later items
in_front_ok item (Ok others) items h = record { others = others; is = refl; all = cc }
in_front_ok item (Err fault) items h = cc

pub pieces_ok : (wanted : List Wanted) (n : ℕ) (pieces : List RawLine) (items : List Item) → items_from wanted n pieces ≡ Ok items → raw_text pieces ≡ text_of_items items
pieces_ok [] n [] items h =
    let none : [] ≡ items = cc in
    ap text_of_items none
pieces_ok [] n (piece ∷ pieces) items h = cc
pieces_ok (wanted ∷ more) n [] items h = cc
pieces_ok (wanted ∷ more) n (piece ∷ pieces) items h = go (λ ws later e. pieces_ok ws (n + 1) pieces later e) (item_on wanted piece) refl h
  where
    go : ((ws : List Wanted) (later : List Item) → items_from ws (n + 1) pieces ≡ Ok later → raw_text pieces ≡ text_of_items later) → (r : Result Item TextKind) → item_on wanted piece ≡ r → (elim r as (λ _. Result (List Item) TextFault) [
      | Ok item ↦ items_in_front (item ∷ []) (items_from (wanted_after wanted item ++ more) (n + 1) pieces)
      | Err kind ↦ Err (text_fault_at kind n)
    ]) ≡ Ok items → raw_text (piece ∷ pieces) ≡ text_of_items items
    go later_ok (Ok item) e h =
        let f = in_front_ok item (items_from (wanted_after wanted item ++ more) (n + 1) pieces) items h in
        ap (λ (bytes : List ℕ). bytes ++ raw_text pieces) (line_is piece item (item_ok wanted piece item e))
        ∙ ap (λ (bytes : List ℕ). item_line item ++ bytes) (later_ok (wanted_after wanted item ++ more) f.others f.is)
        ∙ ap text_of_items f.all
    go later_ok (Err kind) e h = cc

-- a text whose items are read is their text
pub text_ok : (wanted : List Wanted) (n : ℕ) (text : List ℕ) (items : List Item) → items_from wanted n (raw_lines_from n text) ≡ Ok items → text ≡ text_of_items items
text_ok wanted n text items h = sym (text_of-raw_lines n text) ∙ pieces_ok wanted n (raw_lines_from n text) items h
