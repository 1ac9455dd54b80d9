-- Items of trees that have the same text are the same.
use Rattle.std.proofs.Common.{◌≡◌, ℕ, ◌+◌, true, List, [], ◌∷◌, refl, ap, sym, ◌∙◌, append_assoc}
use Rattle.std.specs.List.{AllByRecursion, join_with_byte}
use Rattle.field_lines.specs.RawPieces.{RawLine, raw_lines_from, text_of as raw_text}
use Rattle.field_lines.proofs.TextLemmas.{text_of-raw_lines}
use Rattle.certificate_lines.specs.Spelling.{item_words, text_of_items}
use Rattle.certificate_lines.specs.declared.item.Item.{Item}
use Rattle.certificate_text.proofs.TextBack.{line_cut}
use Rattle.certificate_text.specs.Ranges.{IsInRange}
use Rattle.certificate_text.proofs.Told.{IsTold, told, same_item}

-- the lines of a text that begins with an item's
abbrev item_cut : Item → List Item → List RawLine
item_cut i is = record { number = 1; bytes = join_with_byte 32 (item_words i); ended = true } ∷ raw_lines_from (1 + 1) (text_of_items is)

cut_of : (i : Item) (is : List Item) → IsTold i → raw_lines_from 1 (text_of_items (i ∷ is)) ≡ item_cut i is
cut_of i is a =
    ap (raw_lines_from 1) (append_assoc (join_with_byte 32 (item_words i)) (10 ∷ []) (text_of_items is)) ∙ line_cut 1 (join_with_byte 32 (item_words i)) (text_of_items is) a.printed

abbrev first_bytes : List RawLine → List ℕ
first_bytes [] = []
first_bytes (piece ∷ pieces) = piece.bytes

abbrev after_first : List RawLine → List RawLine
after_first [] = []
after_first (piece ∷ pieces) = pieces

both_same : (i j : Item) (is js : List Item) → i ≡ j → is ≡ js → i ∷ is ≡ j ∷ js
both_same i j is js e h = cc

none_same : (j : Item) (js : List Item) → IsTold j → text_of_items [] ≡ text_of_items (j ∷ js) → ⊥
none_same j js b e =
    let cut : [] ≡ item_cut j js = ap (raw_lines_from 1) e ∙ cut_of j js b in
    cc

later_same : (is js : List Item) → raw_lines_from (1 + 1) (text_of_items is) ≡ raw_lines_from (1 + 1) (text_of_items js) → text_of_items is ≡ text_of_items js
later_same is js e = sym (text_of-raw_lines (1 + 1) (text_of_items is)) ∙ ap raw_text e ∙ text_of-raw_lines (1 + 1) (text_of_items js)

pub texts_same : (is js : List Item) → AllByRecursion IsInRange is → AllByRecursion IsInRange js → text_of_items is ≡ text_of_items js → is ≡ js
texts_same [] [] a b e = refl
texts_same [] (j ∷ js) a b e = absurd (none_same j js (told j b.0) e)
texts_same (i ∷ is) [] a b e = absurd (none_same i is (told i a.0) (sym e))
texts_same (i ∷ is) (j ∷ js) a b e =
    let cut : item_cut i is ≡ item_cut j js = sym (cut_of i is (told i a.0)) ∙ ap (raw_lines_from 1) e ∙ cut_of j js (told j b.0) in
    both_same i j is js (same_item i j (told i a.0) (told j b.0) (ap first_bytes cut)) (texts_same is js a.1 b.1 (later_same is js (ap after_first cut)))
