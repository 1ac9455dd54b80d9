-- A grouping that is sorted by the places of ascending codes is sorted by codes.
use Rattle.std.proofs.Common.{◌≡◌, ℕ, suc, ◌<◌, Bool, true, false, cond, ◌==◌, List, [], ◌∷◌, map, filter, length, get_or, refl, sym, ap, ◌∙◌, subst, arith, ◌⊎◌, inl, inr}
use Rattle.std.specs.List.Sorted.{IsStrictlyIncreasing}
use Rattle.std.proofs.lemmas.Bool.{eqb-true, eq-eqb, false≢true}
use Rattle.std.proofs.lemmas.List.Kept.{AllPairs-from_increasing, IsStrictlyIncreasing-filter}
use Rattle.county_codes.specs.declared.group.Group.{Group}
use Rattle.grouping_laws.specs.Sets.{contains}
use Rattle.grouping_laws.specs.Grouping.{Grouping, sets_of}
use Rattle.grouping_laws.specs.GroupsFrom.{place, IsLesser, IsBefore}
use Rattle.grouping_laws.proofs.Elements.{Has, has_all, has_get, all_from_has, has-map}
use Rattle.grouping_laws.proofs.Parts.{has-filter}
use Rattle.branch_bound.specs.Searching.{IsSorted}
use Rattle.branch_bound.specs.Answers.{StandsInOrder}

-- a code of the order stands at its place
place_there : (order : List ℕ) (c : ℕ) → Has order c → (place order c < length order) × (get_or order (place order c) 0 ≡ c)
place_there [] c h = absurd h
place_there (x ∷ xs) c h = go (x == c) refl h (place_there xs c)
  where
    go : (b : Bool) → (x == c) ≡ b → Has (x ∷ xs) c → (Has xs c → (place xs c < length xs) × (get_or xs (place xs c) 0 ≡ c))
        → (cond b 0 (suc (place xs c)) < suc (length xs)) × (get_or (x ∷ xs) (cond b 0 (suc (place xs c))) 0 ≡ c)
    go true e h next = (omega arith, eqb-true x c e)
    go false e (inl k) next = absurd (false≢true (sym e ∙ eq-eqb x c k))
    go false e (inr k) next = let r = next k in (omega (arith, r.0), r.1)

module _ (order : List ℕ) (ascending : IsStrictlyIncreasing order) where
  place_rises : (x y : ℕ) → Has order x → Has order y → place order x < place order y → x < y
  place_rises x y h i l =
      let a = place_there order x h in
      let b = place_there order y i in
      subst (λ z. z < y) a.1 (subst (λ z. get_or order (place order x) 0 < z) b.1 (AllPairs-from_increasing order ascending (place order x) (place order y) 0 l b.0))

  place_same : (x y : ℕ) → Has order x → Has order y → place order x ≡ place order y → x ≡ y
  place_same x y h i e = sym (place_there order x h).1 ∙ (ap (λ n. get_or order n 0) e ∙ (place_there order y i).1)

  lesser_codes : (g h : List ℕ) → ((c : ℕ) → Has g c → Has order c) → ((c : ℕ) → Has h c → Has order c) → IsLesser (map (place order) g) (map (place order) h) → IsLesser g h
  lesser_codes [] h inside within l = absurd l
  lesser_codes (x ∷ g) [] inside within l = absurd l
  lesser_codes (x ∷ g) (y ∷ h) inside within (inl l) = inl (place_rises x y (inside x (inl refl)) (within y (inl refl)) l)
  lesser_codes (x ∷ g) (y ∷ h) inside within (inr r) =
      inr (place_same x y (inside x (inl refl)) (within y (inl refl)) r.0, lesser_codes g h (λ c k. inside c (inr k)) (λ c k. within c (inr k)) r.1)

  before_codes : (g h : List ℕ) → ((c : ℕ) → Has g c → Has order c) → ((c : ℕ) → Has h c → Has order c) → IsBefore order g h → (length g < length h) ⊎ ((length g ≡ length h) × IsLesser g h)
  before_codes g h inside within (inl l) = inl l
  before_codes g h inside within (inr r) = inr (r.0, lesser_codes g h inside within r.1)

  -- codes in the order of places are codes of the order
  codes_inside : (g : List ℕ) → filter (contains g) order ≡ g → (c : ℕ) → Has g c → Has order c
  codes_inside g e c h = (has-filter (contains g) order c (subst (λ z. Has z c) (sym e) h)).0

  sets_inside : (groups : Grouping) → IsSorted order groups → (set : List ℕ) → Has (sets_of groups) set → (c : ℕ) → Has set c → Has order c
  sets_inside groups sorted set h =
      let m = has-map groups set h in
      codes_inside set (subst (λ z. filter (contains z) order ≡ z) m.2 (has_all (λ (x : Group). filter (contains x.codes) order ≡ x.codes) groups sorted.in_order m.0 m.1))

  pub stands_in_order : (groups : Grouping) → IsSorted order groups → StandsInOrder groups
  stands_in_order groups sorted = record {
    groups = λ i j d l m.
        before_codes (get_or (sets_of groups) i d) (get_or (sets_of groups) j d)
        (sets_inside groups sorted (get_or (sets_of groups) i d) (has_get (sets_of groups) i d (omega (arith, l, m))))
        (sets_inside groups sorted (get_or (sets_of groups) j d) (has_get (sets_of groups) j d m))
        (sorted.in_turn i j d l m);
    codes = all_from_has (λ (x : Group). IsStrictlyIncreasing x.codes) groups
        (λ x h. subst IsStrictlyIncreasing (has_all (λ (y : Group). filter (contains y.codes) order ≡ y.codes) groups sorted.in_order x h) (IsStrictlyIncreasing-filter (contains x.codes) order ascending));
  }
