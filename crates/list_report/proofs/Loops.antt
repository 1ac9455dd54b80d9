-- Loops that go over a list and put what they make of each element behind the rest.
use Rattle.std.proofs.Common.{◌≡◌, ℕ, ◌+◌, ◌<◌, Bool, true, false, cond, List, [], ◌∷◌, ◌++◌, length, get_or, drop, map, filter, sym, ap, ◌∙◌, append_assoc}
use Rattle.std.proofs.lemmas.List.{at_drop_more}

-- what is told of the rest of a list, by the element that was read
pub read : {X Z : Type 0} (F : List X → Z) (xs : List X) (i : ℕ) (x : X) → i < length xs → x ≡ get_or xs i x → F (drop i xs) ≡ F (x ∷ drop (i + 1) xs)
read {X} F xs i x inside is = at_drop_more F xs i x inside ∙ ap (λ (y : X). F (y ∷ drop (i + 1) xs)) (sym is)

-- one element more
pub more : {Y : Type 0} (now text rest : List Y) {left whole new : List Y} → new ≡ now ++ text → left ≡ text ++ rest → now ++ left ≡ whole → new ++ rest ≡ whole
more {Y} now text rest e w inv = ap (λ (l : List Y). l ++ rest) e ∙ append_assoc now text rest ∙ ap (λ (l : List Y). now ++ l) (sym w) ∙ inv

-- one element more that is left out
pub passed : {Y : Type 0} (now : List Y) {rest left whole new : List Y} → new ≡ now → left ≡ rest → now ++ left ≡ whole → new ++ rest ≡ whole
passed {Y} now {rest} e w inv = ap (λ (l : List Y). l ++ rest) e ∙ ap (λ (l : List Y). now ++ l) (sym w) ∙ inv

pub keeps : {X : Type 0} (q : X → Bool) (x : X) (xs : List X) → q x ≡ true → filter q (x ∷ xs) ≡ x ∷ filter q xs
keeps q x xs h = ap (λ (b : Bool). cond b (x ∷ filter q xs) (filter q xs)) h

pub drops : {X : Type 0} (q : X → Bool) (x : X) (xs : List X) → q x ≡ false → filter q (x ∷ xs) ≡ filter q xs
drops q x xs h = ap (λ (b : Bool). cond b (x ∷ filter q xs) (filter q xs)) h

-- a loop that keeps what F makes of the elements that pass a test
module _ {X Y : Type 0} (q : X → Bool) (F : X → Y) (now : List Y) (xs : List X) (i : ℕ) (x : X) {whole new : List Y} (inside : i < length xs) (is : x ≡ get_or xs i x) where
  pub kept : q x ≡ true → new ≡ now ++ F x ∷ [] → now ++ map F (filter q (drop i xs)) ≡ whole → new ++ map F (filter q (drop (i + 1) xs)) ≡ whole
  kept h e inv =
      more now (F x ∷ []) (map F (filter q (drop (i + 1) xs))) e (read (λ (l : List X). map F (filter q l)) xs i x inside is ∙ ap (map F) (keeps q x (drop (i + 1) xs) h)) inv

  pub left_out : q x ≡ false → new ≡ now → now ++ map F (filter q (drop i xs)) ≡ whole → new ++ map F (filter q (drop (i + 1) xs)) ≡ whole
  left_out h e inv = passed now e (read (λ (l : List X). map F (filter q l)) xs i x inside is ∙ ap (map F) (drops q x (drop (i + 1) xs) h)) inv

-- a loop that keeps the elements themselves
module _ {X : Type 0} (q : X → Bool) (now : List X) (xs : List X) (i : ℕ) (x : X) {whole new : List X} (inside : i < length xs) (is : x ≡ get_or xs i x) where
  pub kept_same : q x ≡ true → new ≡ now ++ x ∷ [] → now ++ filter q (drop i xs) ≡ whole → new ++ filter q (drop (i + 1) xs) ≡ whole
  kept_same h e inv = more now (x ∷ []) (filter q (drop (i + 1) xs)) e (read (filter q) xs i x inside is ∙ keeps q x (drop (i + 1) xs) h) inv

  pub left_out_same : q x ≡ false → new ≡ now → now ++ filter q (drop i xs) ≡ whole → new ++ filter q (drop (i + 1) xs) ≡ whole
  left_out_same h e inv = passed now e (read (filter q) xs i x inside is ∙ drops q x (drop (i + 1) xs) h) inv
