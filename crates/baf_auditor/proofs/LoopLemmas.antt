-- Loops that append the text of one element after the other, where the text of what is left gives the whole.
use Rattle.std.proofs.Common.{◌≡◌, ◌∙◌, ◌+◌, ◌<◌, ◌++◌, ◌∷◌, [], ℕ, List, length, get_or, drop, ap, sym, append_assoc, append-nil}
use Rattle.std.proofs.lemmas.List.{at_drop_more}

-- one element more
pub step_more : {A : Type 0} (now text rest : List A) {left whole new : List A} → new ≡ now ++ text → left ≡ text ++ rest → now ++ left ≡ whole → new ++ rest ≡ whole
step_more {A} now text rest e w inv = ap (λ (l : List A). l ++ rest) e ∙ append_assoc now text rest ∙ ap (λ (l : List A). now ++ l) (sym w) ∙ inv

-- and no more
pub step_done : {A : Type 0} (now : List A) {left whole : List A} → left ≡ [] → now ++ left ≡ whole → now ≡ whole
step_done {A} now e inv = sym (append-nil now) ∙ ap (λ (l : List A). now ++ l) (sym e) ∙ inv

-- the text from a place on, by the element that was read there
pub from_read : {X Y : Type 0} (F : List X → Y) (xs : List X) (i : ℕ) (x : X) → i < length xs → x ≡ get_or xs i x → F (drop i xs) ≡ F (x ∷ drop (i + 1) xs)
from_read {X} F xs i x inside is = at_drop_more F xs i x inside ∙ ap (λ (y : X). F (y ∷ drop (i + 1) xs)) (sym is)
