-- What is written line by line.
use Rattle.std.proofs.Common.{◌≡◌, ℕ, ◌+◌, ◌<◌, ◌≤◌, List, [], ◌∷◌, ◌++◌, length, map, take, get_or, All, OnOk, Result, Ok, Err, refl, ap, sym, subst, ◌∙◌, arith, append_assoc, append-nil}
use Rattle.std.specs.declared.alloc.AllocError.{AllocError}
use Rattle.std.specs.List.{AllByRecursion, flat_map}
use Rattle.std.proofs.lemmas.Grind.{flat_map-append}
use Rattle.std.proofs.lemmas.List.{map-append}
use Rattle.std.proofs.lemmas.List.Elements.{recursion_from_All}
use Rattle.certificate_lines.specs.Spelling.{item_line, text_of_items}
use Rattle.certificate_data.specs.declared.weights.Weight.{Weight}
use Rattle.certificate_lines.specs.declared.item.Item.{Item}
use Rattle.certificate_data.proofs.ListLaws.{taken_more}
use Rattle.certificate_text.specs.Ranges.{IsWeightInRange, IsInRange}
use Rattle.certificate_text.specs.Writing.{Added}

all_range : (is js : List Item) → AllByRecursion IsInRange is → AllByRecursion IsInRange js → AllByRecursion IsInRange (is ++ js)
all_range [] js a b = b
all_range (i ∷ is) js a b = (a.0, all_range is js a.1 b)

pub added_none : (x : List ℕ) → Added [] x x
added_none x = record { text = sym (append-nil x); range = tt }

pub added_then : (is js : List Item) (x y z : List ℕ) → Added is x y → Added js y z → Added (is ++ js) x z
added_then is js x y z f g = record {
  text = g.text ∙ ap (λ (t : List ℕ). t ++ text_of_items js) f.text ∙ append_assoc x (text_of_items is) (text_of_items js) ∙ ap (λ (t : List ℕ). x ++ t) (sym (flat_map-append item_line is js));
  range = all_range is js f.range g.range;
}

pub added_as : (is js : List Item) (x y : List ℕ) → is ≡ js → Added is x y → Added js x y
added_as is js x y same h = subst (λ (l : List Item). Added l x y) same h

pub added_line : (i : Item) (x y line : List ℕ) → line ≡ item_line i → y ≡ x ++ line → IsInRange i → Added (i ∷ []) x y
added_line i x y line is text range = record { text = text ∙ ap (λ (l : List ℕ). x ++ l) (is ∙ sym (append-nil (item_line i))); range = (range, tt) }

-- the same of a call that is the last
pub adds_line : (S : Type 0) (i : Item) (x y line : List ℕ) (r : Result (Unit {0}) AllocError) → line ≡ item_line i → (S → IsInRange i) → OnOk r (y ≡ x ++ line) → OnOk r S → OnOk r (Added (i ∷ []) x y)
adds_line S i x y line (Ok done) is range text small = added_line i x y line is text (range small)
adds_line S i x y line (Err fault) is range text small = tt

pub adds_after : (is js : List Item) (x y z : List ℕ) (r : Result (Unit {0}) AllocError) → Added is x y → OnOk r (Added js y z) → OnOk r (Added (is ++ js) x z)
adds_after is js x y z (Ok done) f g = added_then is js x y z f g
adds_after is js x y z (Err fault) f g = tt

pub adds_as : (is js : List Item) (x z : List ℕ) (r : Result (Unit {0}) AllocError) → is ≡ js → OnOk r (Added is x z) → OnOk r (Added js x z)
adds_as is js x z (Ok done) same h = added_as is js x z same h
adds_as is js x z (Err fault) same h = tt

-- one more of a list that is written in turn, each by its item or by its items
pub item_added : {X : Type 0} (view : X → Item) (xs : List X) (i : ℕ) (x : X) (start old new : List ℕ) → x ≡ get_or xs i x → i < length xs
    → Added (map view (take i xs)) start old → Added (view x ∷ []) old new → Added (map view (take (i + 1) xs)) start new
item_added view xs i x start old new is lt before one =
    added_as (map view (take i xs) ++ view x ∷ []) (map view (take (i + 1) xs)) start new
    (sym (map-append view (take i xs) (x ∷ [])) ∙ ap (map view) (sym (taken_more xs i x is lt)))
    (added_then (map view (take i xs)) (view x ∷ []) start old new before one)

pub list_added : {X : Type 0} (view : X → List Item) (first : List Item) (xs : List X) (i : ℕ) (x : X) (start old new : List ℕ) → x ≡ get_or xs i x → i < length xs
    → Added (first ++ flat_map view (take i xs)) start old → Added (view x) old new → Added (first ++ flat_map view (take (i + 1) xs)) start new
list_added view first xs i x start old new is lt before one =
    added_as ((first ++ flat_map view (take i xs)) ++ view x) (first ++ flat_map view (take (i + 1) xs)) start new
    (append_assoc first (flat_map view (take i xs)) (view x)
    ∙ ap (λ (l : List Item). first ++ l)
    (ap (λ (l : List Item). flat_map view (take i xs) ++ l) (sym (append-nil (view x))) ∙ sym (flat_map-append view (take i xs) (x ∷ [])) ∙ ap (flat_map view) (sym (taken_more xs i x is lt))))
    (added_then (first ++ flat_map view (take i xs)) (view x) start old new before one)

pub flat_same : {X : Type 0} (f g : X → List Item) → ((x : X) → f x ≡ g x) → (xs : List X) → flat_map f xs ≡ flat_map g xs
flat_same f g same [] = refl
flat_same f g same (x ∷ xs) = ap (λ (l : List Item). l ++ flat_map f xs) (same x) ∙ ap (λ (l : List Item). g x ++ l) (flat_same f g same xs)

weights_each : (ws : List Weight) → AllByRecursion (λ w. w.county ≤ 99999) ws → AllByRecursion (λ w. w.weight ≤ 4294967295) ws → AllByRecursion IsWeightInRange ws
weights_each [] a b = tt
weights_each (w ∷ ws) a b = (record { county = a.0; weight = omega (arith, b.0) }, weights_each ws a.1 b.1)

pub weights_range : (ws : List Weight) → All (λ w. w.county ≤ 99999) ws → All (λ w. w.weight ≤ 4294967295) ws → AllByRecursion IsWeightInRange ws
weights_range ws a b = weights_each ws (recursion_from_All (λ w. w.county ≤ 99999) ws a) (recursion_from_All (λ w. w.weight ≤ 4294967295) ws b)
