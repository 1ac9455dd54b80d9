-- What is written line by line.
use Rattle.std.proofs.Common.{◌≡◌, ℕ, ◌+◌, ◌<◌, List, [], ◌∷◌, ◌++◌, length, take, get_or, OnOk, Result, Ok, Err, ap, sym, subst, ◌∙◌, append_assoc, append-nil}
use Rattle.std.specs.List.{flat_map}
use Rattle.std.specs.declared.alloc.AllocError.{AllocError}
use Rattle.std.proofs.lemmas.Grind.{flat_map-append}
use Rattle.certificate_data.proofs.ListLaws.{taken_more}
use Rattle.certificate_lines.specs.Spelling.{item_line, text_of_items}
use Rattle.certificate_lines.specs.declared.item.Item.{Item}
use Rattle.certificate_text.specs.Writing.{Added}
use Rattle.partial_text.specs.Writing.{AddsLines}

pub adds_then : (is js : List Item) (x y z : List ℕ) → AddsLines is x y → AddsLines js y z → AddsLines (is ++ js) x z
adds_then is js x y z f g =
    g ∙ ap (λ (t : List ℕ). t ++ text_of_items js) f ∙ append_assoc x (text_of_items is) (text_of_items js) ∙ ap (λ (t : List ℕ). x ++ t) (sym (flat_map-append item_line is js))

-- the same of a call that is the last
pub adds_after : (is js : List Item) (x y z : List ℕ) (r : Result (Unit {0}) AllocError) → AddsLines is x y → OnOk r (AddsLines js y z) → OnOk r (AddsLines (is ++ js) x z)
adds_after is js x y z (Ok done) f g = adds_then is js x y z f g
adds_after is js x y z (Err fault) f g = tt

pub adds_as : (is js : List Item) (x z : List ℕ) (r : Result (Unit {0}) AllocError) → is ≡ js → OnOk r (AddsLines is x z) → OnOk r (AddsLines js x z)
adds_as is js x z r same h = subst (λ (l : List Item). OnOk r (AddsLines l x z)) same h

-- lines that were written with their numbers
pub adds_lines : (is : List Item) (x z : List ℕ) (r : Result (Unit {0}) AllocError) → OnOk r (Added is x z) → OnOk r (AddsLines is x z)
adds_lines is x z (Ok done) h = h.text
adds_lines is x z (Err fault) h = tt

-- one more of a list that is written in turn
pub list_adds : {X : Type 0} (view : X → List Item) (first : List Item) (xs : List X) (i : ℕ) (x : X) (start old new : List ℕ) → x ≡ get_or xs i x → i < length xs
    → AddsLines (first ++ flat_map view (take i xs)) start old → AddsLines (view x) old new → AddsLines (first ++ flat_map view (take (i + 1) xs)) start new
list_adds view first xs i x start old new is lt before one =
    subst (λ (l : List Item). AddsLines l start new)
    (append_assoc first (flat_map view (take i xs)) (view x)
    ∙ ap (λ (l : List Item). first ++ l)
    (ap (λ (l : List Item). flat_map view (take i xs) ++ l) (sym (append-nil (view x))) ∙ sym (flat_map-append view (take i xs) (x ∷ [])) ∙ ap (flat_map view) (sym (taken_more xs i x is lt))))
    (adds_then (first ++ flat_map view (take i xs)) (view x) start old new before one)
