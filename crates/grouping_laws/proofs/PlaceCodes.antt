-- Lists of places of an order and the lists of codes at them: members, counts and their order.
use Rattle.std.proofs.Common.{◌≡◌, ℕ, zero, suc, ◌≤◌, ◌<◌, Bool, true, false, cond, ◌||◌, ◌==◌, List, [], ◌∷◌, map, length, refl, sym, ap, ◌∙◌, subst, arith, inl, inr}
use Rattle.std.proofs.lemmas.Bool.{eqb-true, eq-eqb, ne_eqb, false≢true}
use Rattle.std.proofs.lemmas.Bool.Decides.{nat_tests}
use Rattle.grouping_laws.specs.Sets.{indicator, count, contains}
use Rattle.grouping_laws.specs.GroupsFrom.{place}
use Rattle.grouping_laws.specs.Places.{places_below, codes_at}
use Rattle.grouping_laws.specs.PlaceProblem.{code_at}
use Rattle.grouping_laws.proofs.Elements.{Has, all_from_has}
use Rattle.grouping_laws.proofs.Places.{has_member, place_at, places_are_codes}

-- each place of the list is below n
abbrev pub Below : ℕ → List ℕ → Type 0
Below n g = (i : ℕ) → Has g i → i < n

pub member_has : (xs : List ℕ) (c : ℕ) → contains xs c ≡ true → Has xs c
member_has [] c e = absurd (false≢true e)
member_has (x ∷ xs) c e = go (x == c) refl e (member_has xs c)
  where
    go : (b : Bool) → (x == c) ≡ b → (b || contains xs c) ≡ true → (contains xs c ≡ true → Has xs c) → Has (x ∷ xs) c
    go true k o next = inl (eqb-true x c k)
    go false k o next = inr (next o)

pub mapped_has : {X Y : Type 0} (f : X → Y) (xs : List X) (x : X) → Has xs x → Has (map f xs) (f x)
mapped_has f [] x h = absurd h
mapped_has f (y ∷ xs) x (inl e) = inl (ap f e)
mapped_has f (y ∷ xs) x (inr h) = inr (mapped_has f xs x h)

pub has_mapped : {X Y : Type 0} (f : X → Y) (xs : List X) (y : Y) → Has (map f xs) y → (x : X) × Has xs x × (f x ≡ y)
has_mapped f [] y h = absurd h
has_mapped f (x ∷ xs) y (inl e) = (x, inl refl, e)
has_mapped f (x ∷ xs) y (inr h) = let r = has_mapped f xs y h in (r.0, inr r.1, r.2)

-- the place of a place is itself
place_suc : (xs : List ℕ) (c : ℕ) → place (map suc xs) (suc c) ≡ place xs c
place_suc [] c = refl
place_suc (x ∷ xs) c = ap (λ b. cond b 0 (suc (place (map suc xs) (suc c)))) (same x c) ∙ ap (λ z. cond (x == c) 0 (suc z)) (place_suc xs c)
  where
    same : (x c : ℕ) → (suc x == suc c) ≡ (x == c)
    same x c = grind (arith, nat_tests)

pub place_here : (n c : ℕ) → c < n → place (places_below n) c ≡ c
place_here zero c l = absurd (omega arith)
place_here (suc n) zero l = ap (λ b. cond b 0 (suc (place (map suc (places_below n)) zero))) (eq-eqb zero zero refl)
place_here (suc n) (suc c) l =
    ap (λ b. cond b 0 (suc (place (map suc (places_below n)) (suc c)))) (ne_eqb zero (suc c) (λ e. omega arith)) ∙ ap suc (place_suc (places_below n) c ∙ place_here n c (omega arith))

pub places_here : (n : ℕ) (g : List ℕ) → Below n g → map (place (places_below n)) g ≡ g
places_here n [] h = refl
places_here n (x ∷ g) h = both (place_here n x (h x (inl refl))) (places_here n g (λ c i. h c (inr i)))
  where
    both : place (places_below n) x ≡ x → map (place (places_below n)) g ≡ g → place (places_below n) x ∷ map (place (places_below n)) g ≡ x ∷ g
    both e k = cc

module _ (order : List ℕ) (once : (c : ℕ) → count c order ≤ 1) where
  -- two places of the order have one code exactly where they are one place
  same_code : (i j : ℕ) → i < length order → j < length order → (code_at order i == code_at order j) ≡ (i == j)
  same_code i j l m = go (i == j) refl
    where
      go : (b : Bool) → (i == j) ≡ b → (code_at order i == code_at order j) ≡ b
      go true e = eq-eqb (code_at order i) (code_at order j) (ap (code_at order) (eqb-true i j e))
      go false e = ne_eqb (code_at order i) (code_at order j) (λ k. false≢true (sym e ∙ eq-eqb i j (sym (place_at order once i l) ∙ (ap (place order) k ∙ place_at order once j m))))

  pub often_code : (g : List ℕ) → Below (length order) g → (i : ℕ) → i < length order → count (code_at order i) (codes_at order g) ≡ count i g
  often_code [] below i l = refl
  often_code (x ∷ g) below i l = omega (arith, ap indicator (same_code x i (below x (inl refl)) l), often_code g (λ y h. below y (inr h)) i l)

  pub member_code : (g : List ℕ) → Below (length order) g → (i : ℕ) → i < length order → contains (codes_at order g) (code_at order i) ≡ contains g i
  member_code [] below i l = refl
  member_code (x ∷ g) below i l = ap (λ b. b || contains (codes_at order g) (code_at order i)) (same_code x i (below x (inl refl)) l) ∙ ap (λ b. (x == i) || b) (member_code g (λ y h. below y (inr h)) i l)

  -- a code of the list stands at its place, which is a place of the list
  pub code_place : (g : List ℕ) → Below (length order) g → (c : ℕ) → contains (codes_at order g) c ≡ true → (place order c < length order) × (contains g (place order c) ≡ true) × (code_at order (place order c) ≡ c)
  code_place g below c e =
      let r : (i : ℕ) × Has g i × (code_at order i ≡ c) = has_mapped (code_at order) g c (member_has (codes_at order g) c e) in
      let at : place order c ≡ r.0 = sym (ap (place order) r.2) ∙ place_at order once r.0 (below r.0 r.1) in
      (subst (λ z. z < length order) (sym at) (below r.0 r.1), ap (contains g) at ∙ has_member g r.0 r.1, ap (code_at order) at ∙ r.2)

  pub places_back : (g : List ℕ) → Below (length order) g → map (place order) (codes_at order g) ≡ g
  places_back g below = places_are_codes.back order once g (all_from_has (λ i. i < length order) g below)

  pub codes_injective : (g h : List ℕ) → Below (length order) g → Below (length order) h → codes_at order g ≡ codes_at order h → g ≡ h
  codes_injective g h below within e = sym (places_back g below) ∙ (ap (map (place order)) e ∙ places_back h within)
