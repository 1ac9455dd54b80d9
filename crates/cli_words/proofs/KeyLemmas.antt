-- Lists whose elements have keys of their own.
use Rattle.std.proofs.Common.{◌≡◌, ◌≢◌, ◌∙◌, ◌&&◌, ◌||◌, not, ℕ, Bool, cond, true, false, zero, suc, refl, sym, ap, subst, arith, List, [], ◌∷◌, Option, Some, true≢false}
use Rattle.std.specs.List.{All, AllByRecursion, find, list_all, list_any}
use Rattle.std.specs.Option.{IsSomeAnd}
use Rattle.std.specs.Str.{bytes_eq}
use Rattle.std.proofs.lemmas.List.Elements.{All-cons, All-head, All-nil, All-tail}
use Rattle.std.proofs.lemmas.Slice.Eq.{bytes_eq-Decides}
use Rattle.clap.specs.Walk.{Text}
use Rattle.clap.proofs.WalkLemmas.{both}

module _ {X : Type 0} (key : X → Text) where
  -- no two elements have one key
  abbrev pub keys_differ : List X → Bool
  keys_differ [] = true
  keys_differ (a ∷ rest) = not (list_any (λ b. bytes_eq (key b) (key a)) rest) && keys_differ rest

  -- the first element of this key
  abbrev pub by_key : List X → Text → Option X
  by_key xs t = find (λ b. bytes_eq (key b) t) xs

pub same_bytes : (xs : List ℕ) → bytes_eq xs xs ≡ true
same_bytes xs = (bytes_eq-Decides xs xs).1 refl

found_passes : {X : Type 0} (p : X → Bool) (xs : List X) (a : X) → find p xs ≡ Some a → list_any p xs ≡ true
found_passes p [] a e = cc
found_passes p (x ∷ xs) a e = go (p x) e (λ f. found_passes p xs a f)
  where
    go : (b : Bool) → cond b (Some x) (find p xs) ≡ Some a → (find p xs ≡ Some a → list_any p xs ≡ true) → (b || list_any p xs) ≡ true
    go true f rest = refl
    go false f rest = rest f

-- a test that no element passes, at one that a search finds
pub none_passes : {X : Type 0} (p q : X → Bool) (xs : List X) (a : X) → list_any p xs ≡ false → find q xs ≡ Some a → p a ≡ false
none_passes p q [] a none e = cc
none_passes {X} p q (x ∷ xs) a none e = go (p x) refl none (q x) e (λ n f. none_passes p q xs a n f)
  where
    go : (b : Bool) → p x ≡ b → (b || list_any p xs) ≡ false → (t : Bool) → cond t (Some x) (find q xs) ≡ Some a
        → (list_any p xs ≡ false → find q xs ≡ Some a → p a ≡ false) → p a ≡ false
    go true is n t f rest = absurd (true≢false n)
    go false is n true f rest =
        let same : x ≡ a = cc in
        subst (λ (y : X). p y ≡ false) same is
    go false is n false f rest = rest n f

module _ {X : Type 0} (key : X → Text) where
  -- an element that differs from the first is found behind it
  later : (x : X) (xs : List X) (a : X) → keys_differ key (x ∷ xs) ≡ true → by_key key xs (key a) ≡ Some a → by_key key (x ∷ xs) (key a) ≡ Some a
  later x xs a differ own = go (bytes_eq (key x) (key a)) refl
    where
      go : (b : Bool) → bytes_eq (key x) (key a) ≡ b → cond b (Some x) (by_key key xs (key a)) ≡ Some a
      go false is = own
      go true is =
          let same : key a ≡ key x = sym ((bytes_eq-Decides (key x) (key a)).0 is) in
          let again : list_any (λ (b : X). bytes_eq (key b) (key x)) xs ≡ true =
          found_passes (λ (b : X). bytes_eq (key b) (key x)) xs a (ap (λ (t : Text). by_key key xs t) (sym same) ∙ own) in
          let bad : false ≡ true = ap not (sym again) ∙ (both _ _ differ).0 in
          absurd (true≢false (sym bad))

  -- where no element has the key, none is found by it
  pub no_key : (P : X → Type 0) (xs : List X) (t : Text) → AllByRecursion (λ x. t ≢ key x) xs → IsSomeAnd (by_key key xs t) P → ⊥
  no_key P [] t none h = h
  no_key P (x ∷ xs) t none h = go (bytes_eq (key x) t) refl h (no_key P xs t none.1)
    where
      go : (b : Bool) → bytes_eq (key x) t ≡ b → IsSomeAnd (cond b (Some x) (by_key key xs t)) P → (IsSomeAnd (by_key key xs t) P → ⊥) → ⊥
      go true is found rest = none.0 (sym ((bytes_eq-Decides (key x) t).0 is))
      go false is found rest = rest found

  first_found : (x : X) (xs : List X) → by_key key (x ∷ xs) (key x) ≡ Some x
  first_found x xs = ap (λ (t : Bool). cond t (Some x) (by_key key xs (key x))) (same_bytes (key x))

  -- each element that a search finds is the one of its key
  by_own_key : (xs : List X) (p : X → Bool) (a : X) → keys_differ key xs ≡ true → find p xs ≡ Some a → by_key key xs (key a) ≡ Some a
  by_own_key [] p a differ e = cc
  by_own_key (x ∷ xs) p a differ e = go (p x) e (λ f. by_own_key xs p a (both _ _ differ).1 f)
    where
      go : (b : Bool) → cond b (Some x) (find p xs) ≡ Some a → (find p xs ≡ Some a → by_key key xs (key a) ≡ Some a) → by_key key (x ∷ xs) (key a) ≡ Some a
      go true f rest =
          let same : x ≡ a = cc in
          subst (λ (y : X). by_key key (x ∷ xs) (key y) ≡ Some y) same (first_found x xs)
      go false f rest = later x xs a differ (rest f)

  -- so does each element
  pub each_by_own_key : (xs : List X) → keys_differ key xs ≡ true → All (λ a. by_key key xs (key a) ≡ Some a) xs
  each_by_own_key [] differ k d lt = absurd (omega arith)
  each_by_own_key (x ∷ xs) differ zero d lt = first_found x xs
  each_by_own_key (x ∷ xs) differ (suc k) d lt = later x xs _ differ (each_by_own_key xs (both _ _ differ).1 k d (omega arith))

  -- two elements of one key are one
  pub same_by_key : (xs : List X) (p : X → Bool) (a b : X) → keys_differ key xs ≡ true → by_key key xs (key a) ≡ Some a → find p xs ≡ Some b
      → key b ≡ key a → a ≡ b
  same_by_key xs p a b differ there found same =
      let one : Some a ≡ Some b = sym there ∙ (ap (by_key key xs) (sym same) ∙ by_own_key xs p b differ found) in
      cc

-- the element that a search finds
pub find-All : {X : Type 0} (P : X → Type 0) (p : X → Bool) (xs : List X) (x : X) → All P xs → find p xs ≡ Some x → (p x ≡ true) × P x
find-All P p [] x all e = cc
find-All {X} P p (y ∷ ys) x all e = go (p y) refl e (λ f. find-All P p ys x (All-tail P y ys all) f)
  where
    go : (b : Bool) → p y ≡ b → cond b (Some y) (find p ys) ≡ Some x → (find p ys ≡ Some x → (p x ≡ true) × P x) → (p x ≡ true) × P x
    go true is f rest =
        let same : y ≡ x = cc in
        (subst (λ (z : X). p z ≡ true) same is, subst P same (All-head P y ys all))
    go false is f rest = rest f

-- a test that some element passes finds one
pub found_any : {X : Type 0} (p : X → Bool) (xs : List X) → list_any p xs ≡ true → (x : X) × (find p xs ≡ Some x)
found_any p [] e = absurd (true≢false (sym e))
found_any {X} p (x ∷ xs) e = go (p x) e (λ f. found_any p xs f)
  where
    go : (b : Bool) → (b || list_any p xs) ≡ true → (list_any p xs ≡ true → (y : X) × (find p xs ≡ Some y)) → (y : X) × (cond b (Some x) (find p xs) ≡ Some y)
    go true f rest = (x, refl)
    go false f rest = rest f

-- a test that each element passes, at one that a search finds
pub found_too : {X : Type 0} (p q : X → Bool) (xs : List X) (x : X) → list_all p xs ≡ true → find q xs ≡ Some x → p x ≡ true
found_too p q [] x all e = cc
found_too {X} p q (y ∷ ys) x all e = go (q y) e (λ f. found_too p q ys x (both _ _ all).1 f)
  where
    go : (b : Bool) → cond b (Some y) (find q ys) ≡ Some x → (find q ys ≡ Some x → p x ≡ true) → p x ≡ true
    go true f rest =
        let same : y ≡ x = cc in
        subst (λ (z : X). p z ≡ true) same (both _ _ all).0
    go false f rest = rest f

pub All-from_recursion : {X : Type 0} (P : X → Type 0) (xs : List X) → AllByRecursion P xs → All P xs
All-from_recursion P [] h = All-nil P
All-from_recursion P (x ∷ xs) h = All-cons P x xs h.0 (All-from_recursion P xs h.1)
