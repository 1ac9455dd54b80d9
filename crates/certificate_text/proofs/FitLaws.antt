-- Items that fit, one behind the other.
use Rattle.std.proofs.Common.{◌≡◌, ℕ, ◌+◌, ◌-◌, ◌<◌, Bool, true, false, List, [], ◌∷◌, ◌++◌, length, map, take, drop, get_or, ap, sym, subst, ◌∙◌, arith, append_assoc, append-nil}
use Rattle.std.specs.List.{flat_map}
use Rattle.std.proofs.lemmas.Grind.{flat_map-append}
use Rattle.std.proofs.lemmas.List.{map-append}
use Rattle.certificate_lines.specs.Items.{wanted_after}
use Rattle.certificate_lines.specs.Fitting.{IsWanted, AllFit}
use Rattle.certificate_lines.specs.Writing.{DontFit}
use Rattle.certificate_lines.specs.declared.item.Item.{Item}
use Rattle.certificate_lines.specs.declared.item.Wanted.{Wanted}
use Rattle.certificate_text.specs.Tests.{Fitting, Tests}
use Rattle.certificate_text.proofs.LoopLaws.{runs, runs_more}
use Rattle.certificate_data.proofs.ListLaws.{taken_more, cut_at}

pub fitting_none : (w : List Wanted) → Fitting w [] w
fitting_none w = record { fits = λ more later h. h; rest = λ more later h. h }

pub fitting_then : (a b c : List Wanted) (is js : List Item) → Fitting a is b → Fitting b js c → Fitting a (is ++ js) c
fitting_then a b c is js f g = record {
  fits = λ more later h. subst (λ (l : List Item). AllFit (a ++ more) l) (sym (append_assoc is js later)) (f.fits more (js ++ later) (g.fits more later h));
  rest = λ more later h. g.rest more later (f.rest more (js ++ later) (subst (λ (l : List Item). AllFit (a ++ more) l) (append_assoc is js later) h));
}

-- the same, where more is wanted after it
pub fitting_with : (a b more : List Wanted) (is : List Item) → Fitting a is b → Fitting (a ++ more) is (b ++ more)
fitting_with a b more is f = record {
  fits = λ other later h. subst (λ (w : List Wanted). AllFit w (is ++ later)) (sym (append_assoc a more other)) (f.fits (more ++ other) later (subst (λ (w : List Wanted). AllFit w later) (append_assoc b more other) h));
  rest = λ other later h. subst (λ (w : List Wanted). AllFit w later) (sym (append_assoc b more other)) (f.rest (more ++ other) later (subst (λ (w : List Wanted). AllFit w (is ++ later)) (append_assoc a more other) h));
}

pub refused_with : (a more : List Wanted) (is : List Item) → DontFit a is → DontFit (a ++ more) is
refused_with a more is unfit other later h = unfit (more ++ other) later (subst (λ (w : List Wanted). AllFit w (is ++ later)) (append_assoc a more other) h)

pub fitting_as : (a b : List Wanted) (is js : List Item) → is ≡ js → Fitting a is b → Fitting a js b
fitting_as a b is js same h = subst (λ (l : List Item). Fitting a l b) same h

pub fitting_to : (a b c : List Wanted) (is : List Item) → b ≡ c → Fitting a is b → Fitting a is c
fitting_to a b c is same h = subst (λ (w : List Wanted). Fitting a is w) same h

pub refused_as : (a : List Wanted) (is js : List Item) → is ≡ js → DontFit a is → DontFit a js
refused_as a is js same h = subst (λ (l : List Item). DontFit a l) same h

-- what doesn't fit, in front of others and behind what fits
pub refused_more : (b : List Wanted) (js ks : List Item) → DontFit b js → DontFit b (js ++ ks)
refused_more b js ks unfit more later h = unfit more (ks ++ later) (subst (λ (l : List Item). AllFit (b ++ more) l) (append_assoc js ks later) h)

pub refused_after : (a b : List Wanted) (is js : List Item) → Fitting a is b → DontFit b js → DontFit a (is ++ js)
refused_after a b is js f unfit more later h = unfit more later (f.rest more (js ++ later) (subst (λ (l : List Item). AllFit (a ++ more) l) (append_assoc is js later) h))

-- what a test tells behind what fits
pub tests_after : (a b c : List Wanted) (is js : List Item) (r : Bool) → Fitting a is b → Tests b js c r → Tests a (is ++ js) c r
tests_after a b c is js true f g = fitting_then a b c is js f g
tests_after a b c is js false f g = refused_after a b is js f g

pub tests_as : (a b : List Wanted) (is js : List Item) (r : Bool) → is ≡ js → Tests a is b r → Tests a js b r
tests_as a b is js r same h = subst (λ (l : List Item). Tests a l b r) same h

-- a test that was true, and one that was false
pub tested : (a b : List Wanted) (is : List Item) (r : Bool) → r ≡ true → Tests a is b r → Fitting a is b
tested a b is true e h = h
tested a b is false e h = cc

pub untested : (a b : List Wanted) (is : List Item) (r : Bool) → r ≡ false → Tests a is b r → DontFit a is
untested a b is false e h = h
untested a b is true e h = cc

-- items that fit alone, and those that can't
pub whole : (w : Wanted) (is : List Item) → Fitting (w ∷ []) is [] → AllFit (w ∷ []) is
whole w is h = subst (λ (l : List Item). AllFit (w ∷ []) l) (append-nil is) (h.fits [] [] tt)

pub unfit_whole : (w : Wanted) (is : List Item) → DontFit (w ∷ []) is → AllFit (w ∷ []) is → ⊥
unfit_whole w is unfit h = unfit [] [] (subst (λ (l : List Item). AllFit (w ∷ []) l) (sym (append-nil is)) h)

-- one item
pub fitting_line : (w : Wanted) (i : Item) → IsWanted w i → Fitting (w ∷ []) (i ∷ []) (wanted_after w i)
fitting_line w i f = record { fits = λ more later h. (f, h); rest = λ more later h. h.1 }

pub line_refused : (w : Wanted) (ws : List Wanted) (i : Item) (is : List Item) → (IsWanted w i → ⊥) → DontFit (w ∷ ws) (i ∷ is)
line_refused w ws i is unfit more later h = unfit h.0

module _ {X : Type 0} (wants : ℕ → Wanted) (view : X → Item) (after : (n : ℕ) (x : X) → wanted_after (wants n) (view x) ≡ runs wants (n - 1)) (xs : List X) where
  abbrev pub run_before : ℕ → Type 0
  run_before i = Fitting (runs wants (length xs)) (map view (take i xs)) (runs wants (length xs - i))

  run_now : (i : ℕ) → i < length xs → runs wants (length xs - i) ≡ wants (length xs - i) ∷ []
  run_now i lt = runs_more wants (length xs - i) (omega arith)

  pub run_goes : (i : ℕ) (x : X) → x ≡ get_or xs i x → i < length xs → run_before i → IsWanted (wants (length xs - i)) (view x) → run_before (i + 1)
  run_goes i x is lt before fit =
      let first = fitting_to (runs wants (length xs)) (runs wants (length xs - i)) (wants (length xs - i) ∷ []) (map view (take i xs)) (run_now i lt) before in
      let one = fitting_line (wants (length xs - i)) (view x) fit in
      let less : length xs - i - 1 ≡ length xs - (i + 1) = omega arith in
      let then = fitting_to (wants (length xs - i) ∷ []) (wanted_after (wants (length xs - i)) (view x)) (runs wants (length xs - (i + 1))) (view x ∷ []) (after (length xs - i) x ∙ ap (runs wants) less) one in
      fitting_as (runs wants (length xs)) (runs wants (length xs - (i + 1))) (map view (take i xs) ++ view x ∷ []) (map view (take (i + 1) xs))
      (sym (map-append view (take i xs) (x ∷ [])) ∙ ap (map view) (sym (taken_more xs i x is lt)))
      (fitting_then (runs wants (length xs)) (wants (length xs - i) ∷ []) (runs wants (length xs - (i + 1))) (map view (take i xs)) (view x ∷ []) first then)

  pub run_stops : (i : ℕ) (x : X) → x ≡ get_or xs i x → i < length xs → run_before i → (IsWanted (wants (length xs - i)) (view x) → ⊥) → DontFit (runs wants (length xs)) (map view xs)
  run_stops i x is lt before unfit =
      let first = fitting_to (runs wants (length xs)) (runs wants (length xs - i)) (wants (length xs - i) ∷ []) (map view (take i xs)) (run_now i lt) before in
      refused_as (runs wants (length xs)) (map view (take i xs) ++ view x ∷ map view (drop (i + 1) xs)) (map view xs)
      (sym (map-append view (take i xs) (x ∷ drop (i + 1) xs)) ∙ ap (map view) (cut_at xs i x is lt))
      (refused_after (runs wants (length xs)) (wants (length xs - i) ∷ []) (map view (take i xs)) (view x ∷ map view (drop (i + 1) xs)) first (line_refused (wants (length xs - i)) [] (view x) (map view (drop (i + 1) xs)) unfit))

-- values one after the other, each by the items of its own
module _ {X : Type 0} (view : X → List Item) (xs : List X) (a b c : List Wanted) where
  pub list_goes : (i : ℕ) (x : X) → x ≡ get_or xs i x → i < length xs → Fitting a (flat_map view (take i xs)) b → Fitting b (view x) c → Fitting a (flat_map view (take (i + 1) xs)) c
  list_goes i x is lt before one =
      fitting_as a c (flat_map view (take i xs) ++ view x) (flat_map view (take (i + 1) xs))
      (ap (λ (l : List Item). flat_map view (take i xs) ++ l) (sym (append-nil (view x))) ∙ sym (flat_map-append view (take i xs) (x ∷ [])) ∙ ap (flat_map view) (sym (taken_more xs i x is lt)))
      (fitting_then a b c (flat_map view (take i xs)) (view x) before one)

  pub list_stops : (i : ℕ) (x : X) (behind : List Item) → x ≡ get_or xs i x → i < length xs → Fitting a (flat_map view (take i xs)) b → DontFit b (view x) → DontFit a (flat_map view xs ++ behind)
  list_stops i x behind is lt before unfit =
      let joined : flat_map view (take i xs) ++ (view x ++ flat_map view (drop (i + 1) xs)) ≡ flat_map view xs = sym (flat_map-append view (take i xs) (x ∷ drop (i + 1) xs)) ∙ ap (flat_map view) (cut_at xs i x is lt) in
      refused_more a (flat_map view xs) behind
      (refused_as a (flat_map view (take i xs) ++ (view x ++ flat_map view (drop (i + 1) xs))) (flat_map view xs) joined
      (refused_after a b (flat_map view (take i xs)) (view x ++ flat_map view (drop (i + 1) xs)) before (refused_more b (view x) (flat_map view (drop (i + 1) xs)) unfit)))
