-- Lines that are written one after the other, each where it fits.
use Rattle.std.proofs.Common.{◌≡◌, ℕ, ◌+◌, ◌-◌, ◌<◌, List, [], ◌∷◌, ◌++◌, length, map, take, get_or, ap, sym, ◌∙◌, append_assoc, append-nil}
use Rattle.std.proofs.lemmas.Grind.{flat_map-append}
use Rattle.std.proofs.lemmas.List.{map-append}
use Rattle.certificate_lines.specs.Items.{wanted_after}
use Rattle.certificate_lines.specs.Spelling.{item_line, text_of_items}
use Rattle.certificate_lines.specs.Fitting.{IsWanted}
use Rattle.certificate_lines.specs.Writing.{Wrote, DontFit}
use Rattle.certificate_lines.specs.declared.item.Item.{Item}
use Rattle.certificate_lines.specs.declared.item.Wanted.{Wanted}
use Rattle.certificate_text.specs.Tests.{Fitting}
use Rattle.certificate_text.proofs.LoopLaws.{runs}
use Rattle.certificate_data.proofs.ListLaws.{taken_more}
use Rattle.certificate_text.proofs.FitLaws as fit

-- what was written fits
fitting_of : (a b : List Wanted) (x y : List ℕ) (is : List Item) → Wrote a is b x y → Fitting a is b
fitting_of a b x y is h = record { fits = h.fits; rest = h.rest }

-- one item more
pub text_more : (is : List Item) (i : Item) (x y z : List ℕ) → y ≡ x ++ text_of_items is → z ≡ y ++ item_line i → z ≡ x ++ text_of_items (is ++ i ∷ [])
text_more is i x y z before now =
    now ∙ ap (λ (t : List ℕ). t ++ item_line i) before ∙ append_assoc x (text_of_items is) (item_line i)
    ∙ ap (λ (t : List ℕ). x ++ t) (ap (λ (t : List ℕ). text_of_items is ++ t) (sym (append-nil (item_line i))) ∙ sym (flat_map-append item_line is (i ∷ [])))

module _ {X : Type 0} (wants : ℕ → Wanted) (view : X → Item) (after : (n : ℕ) (x : X) → wanted_after (wants n) (view x) ≡ runs wants (n - 1)) (xs : List X) where
  abbrev pub run_before : ℕ → List ℕ → List ℕ → Type 0
  run_before i start old = Wrote (runs wants (length xs)) (map view (take i xs)) (runs wants (length xs - i)) start old

  pub run_goes : (i : ℕ) (x : X) (start old new : List ℕ) → x ≡ get_or xs i x → i < length xs → run_before i start old → IsWanted (wants (length xs - i)) (view x) → new ≡ old ++ item_line (view x) → run_before (i + 1) start new
  run_goes i x start old new is lt before fits text =
      let more = fit.run_goes wants view after xs i x is lt (fitting_of (runs wants (length xs)) (runs wants (length xs - i)) start old (map view (take i xs)) before) fits in
      let items : map view (take i xs) ++ view x ∷ [] ≡ map view (take (i + 1) xs) = sym (map-append view (take i xs) (x ∷ [])) ∙ ap (map view) (sym (taken_more xs i x is lt)) in
      record {
        text = text_more (map view (take i xs)) (view x) start old new before.text text ∙ ap (λ (l : List Item). start ++ text_of_items l) items;
        fits = more.fits;
        rest = more.rest;
      }

  pub run_stops : (i : ℕ) (x : X) (start old : List ℕ) → x ≡ get_or xs i x → i < length xs → run_before i start old → (IsWanted (wants (length xs - i)) (view x) → ⊥) → DontFit (runs wants (length xs)) (map view xs)
  run_stops i x start old is lt before unfit =
      fit.run_stops wants view after xs i x is lt (fitting_of (runs wants (length xs)) (runs wants (length xs - i)) start old (map view (take i xs)) before) unfit
