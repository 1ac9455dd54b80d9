-- The counties of the groups of a list, by the places of all its sets.
use Rattle.std.proofs.Common.{◌≡◌, ℕ, ◌≤◌, ◌<◌, Bool, true, false, ◌||◌, ◌&&◌, List, [], ◌∷◌, filter, length, refl, sym, ap, ◌∙◌, subst, inl, inr, ◌↔◌}
use Rattle.std.specs.List.{list_any}
use Rattle.std.proofs.lemmas.Bool.{false≢true, and_parts}
use Rattle.grouping_laws.specs.Sets.{count, contains}
use Rattle.grouping_laws.specs.Problem.{Problem}
use Rattle.grouping_laws.specs.GroupsFrom.{IsOrder, place}
use Rattle.grouping_laws.specs.PlaceProblem.{code_at}
use Rattle.grouping_laws.proofs.Alike.{member_alike}
use Rattle.grouping_laws.proofs.Elements.{Has, has_get, has_all, contains_from_has}
use Rattle.grouping_laws.proofs.Places.{has_member, place_at, places_are_codes}
use Rattle.grouping_laws.proofs.PlaceCodes.{Below, mapped_has, has_mapped, member_code, code_place}
use Rattle.grouping_laws.proofs.PlaceProblem.{order_once}
use Rattle.place_sets.specs.PlaceSets.{places_of}
use Rattle.connected_laws.proofs.PlaceLists.{placed, placed_test, placed_below}
use Rattle.certificate_data.specs.Round.{Round}
use Rattle.certificate_laws.specs.State.{State}
use Rattle.certificate_laws.specs.Places.{IsRegionAt}
use Rattle.certificate_laws.specs.Search.{IsInFittingGroup}
use Rattle.certificate_laws.proofs.Decided.{listed_alike}
use Rattle.state_groups.specs.PlacedValues.{codes_of_set, codes_of_sets}
use Rattle.bound_proofs.specs.CountLeaves.{has_county, IsListOf}

any_has : {X : Type 0} (q : X → Bool) (xs : List X) → list_any q xs ≡ true → (x : X) × Has xs x × (q x ≡ true)
any_has q [] e = absurd (false≢true e)
any_has {X = X} q (y ∷ ys) e = go (q y) refl e (any_has q ys)
  where
    go : (b : Bool) → q y ≡ b → (b || list_any q ys) ≡ true → (list_any q ys ≡ true → (x : X) × Has ys x × (q x ≡ true)) → (x : X) × Has (y ∷ ys) x × (q x ≡ true)
    go true k f next = (y, inl refl, k)
    go false k f next = let r = next f in (r.0, inr r.1, r.2)

any_from_has : {X : Type 0} (q : X → Bool) (xs : List X) (x : X) → Has xs x → q x ≡ true → list_any q xs ≡ true
any_from_has q [] x h e = absurd h
any_from_has q (y ∷ ys) x (inl k) e = ap (λ b. b || list_any q ys) (ap q k ∙ e)
any_from_has q (y ∷ ys) x (inr h) e = ap (λ b. q y || b) (any_from_has q ys x h e) ∙ either (q y)
  where
    either : (b : Bool) → (b || true) ≡ true
    either true = refl
    either false = refl

module _ (C : Type 0) (test : C → ℕ → Bool) (order : List ℕ) (p : Problem) (whole : IsOrder p order) where
  once : (c : ℕ) → count c order ≤ 1
  once = order_once p order whole

  both_true : (a b : Bool) → a ≡ true → b ≡ true → (a && b) ≡ true
  both_true a b e k = ap (λ z. z && b) e ∙ k

  -- a set of places of the order has just the places of its counties
  pub region_of_set : (set : C) → ((x : ℕ) → test set x ≡ true → x < length order) → IsRegionAt order (has_county order test set) (test set)
  region_of_set set below = record {
    same = λ i l. sym (ap (λ z. z && test set (place order (code_at order i))) (has_member order (code_at order i) (has_get order i 0 l)) ∙ ap (test set) (place_at order once i l));
    below = below;
    known = λ c e. (and_parts (contains order c) (test set (place order c)) e).0;
  }

  set_below : (set : C) → Below (length order) (places_of (length order) (test set))
  set_below set x h = placed_below (length order) x (test set) (has_member (places_of (length order) (test set)) x h)

  -- a county is in the codes of a set exactly where its place is in the set
  pub codes_have : (set : C) (c : ℕ) → has_county order test set c ≡ true → contains (codes_of_set order test set) c ≡ true
  codes_have set c e =
      let r = and_parts (contains order c) (test set (place order c)) e in
      let at = places_are_codes.there order c r.0 in
      subst (λ z. contains (codes_of_set order test set) z ≡ true) at.1
      (member_code order once (places_of (length order) (test set)) (set_below set) (place order c) at.0 ∙ placed (length order) (place order c) (test set) at.0 r.1)

  pub has_codes : (set : C) (c : ℕ) → contains (codes_of_set order test set) c ≡ true → has_county order test set c ≡ true
  has_codes set c e =
      let r = code_place order once (places_of (length order) (test set)) (set_below set) c e in
      both_true (contains order c) (test set (place order c))
      (subst (λ z. contains order z ≡ true) r.2 (has_member order (code_at order (place order c)) (has_get order (place order c) 0 r.0)))
      (placed_test (length order) (place order c) (test set) r.1)

  module _ (round : Round) (e : round.order ≡ order) (s : State) (i : ℕ) (sets : List C) (are : IsListOf test order p round s i sets) (all : C) (together : (x : ℕ) → test all x ≡ list_any (λ g. test g x) sets) where
    pub all_below : (x : ℕ) → test all x ≡ true → x < length order
    all_below x h =
        let r = any_has (λ g. test g x) sets (sym (together x) ∙ h) in
        has_all (λ g. (y : ℕ) → test g y ≡ true → y < length order) sets are.below r.0 r.1 x r.2

    counted_there : (c : ℕ) → has_county order test all c ≡ true → IsInFittingGroup round.format p s i c
    counted_there c h =
        let k = and_parts (contains order c) (test all (place order c)) h in
        let r = any_has (λ g. test g (place order c)) sets (sym (together (place order c)) ∙ k.1) in
        let g = codes_of_set order test r.0 in
        let is = (are.groups.each g).0 (contains_from_has (codes_of_sets order test sets) g (mapped_has (codes_of_set order test) sets r.0 r.1)) in
        (g, is.fits, is.size, codes_have r.0 c (both_true (contains order c) (test r.0 (place order c)) k.0 r.2))

    counted_back : (c : ℕ) → IsInFittingGroup round.format p s i c → has_county order test all c ≡ true
    counted_back c h =
        let k = filter (contains h.0) round.order in
        let found = listed_alike p round s i (codes_of_sets order test sets) (subst (IsOrder p) (sym e) whole) are.groups h.0 h.1 h.2 in
        let r : (set : C) × Has sets set × (codes_of_set order test set ≡ k) = has_mapped (codes_of_set order test) sets k found.1 in
        let there : has_county order test r.0 c ≡ true = has_codes r.0 c (subst (λ z. contains z c ≡ true) (sym r.2) (member_alike h.0 k found.0 c h.3)) in
        let parts = and_parts (contains order c) (test r.0 (place order c)) there in
        both_true (contains order c) (test all (place order c)) parts.0 (together (place order c) ∙ any_from_has (λ g. test g (place order c)) sets r.0 r.1 parts.1)

    -- a county is counted exactly where its place is in some set
    pub counted_tests : (c : ℕ) → (has_county order test all c ≡ true) ↔ IsInFittingGroup round.format p s i c
    counted_tests c = (counted_there c, counted_back c)
