-- The closed groups and the parts of a state, by places and by codes, and their order.
use Rattle.std.proofs.Common.{◌≡◌, ◌≢◌, ℕ, ◌≤◌, ◌<◌, Bool, true, List, ◌++◌, map, filter, length, sym, ap, ◌∙◌, subst, arith, All, AllPairs, Contains}
use Rattle.std.specs.Cmp.Lexicographic.{slice_cmp}
use Rattle.std.specs.Ordering.{nat_cmp, is_lt}
use Rattle.std.specs.List.Sorted.{IsSortedBy, IsPermutation}
use Rattle.std.proofs.lemmas.List.{length-map, get_or-map, map-append}
use Rattle.std.proofs.lemmas.List.Elements.{All-append}
use Rattle.std.proofs.lemmas.List.Sorted.{IsPermutation-refl, IsPermutation-map, IsPermutation-trans}
use Rattle.place_sets.specs.PlaceSets.{places_of}
use Rattle.grouping_laws.specs.Sets.{count, contains}
use Rattle.grouping_laws.specs.Problem.{Problem}
use Rattle.grouping_laws.specs.Parts.{AreParts}
use Rattle.grouping_laws.specs.GroupsFrom.{IsOrder, IsBefore}
use Rattle.grouping_laws.specs.Places.{places_below, codes_at}
use Rattle.grouping_laws.specs.PlaceProblem.{at_places}
use Rattle.grouping_laws.proofs.Elements.{Has, has_all, all_from_has, has_from_contains}
use Rattle.grouping_laws.proofs.PlaceCodes.{has_mapped}
use Rattle.grouping_laws.proofs.PlaceProblem.{order_once, below_ordered, places_ordered, ordered_codes}
use Rattle.grouping_laws.proofs.PlaceGroups.{before_codes, codes_pairs}
use Rattle.connected_laws.specs.Growing.{sort_key}
use Rattle.connected_laws.specs.Listing.{AreBelow, lists_of}
use Rattle.connected_laws.proofs.Keys.{map_twice}
use Rattle.state_groups.specs.declared.state.State.{State as StateHeld}
use Rattle.certificate_laws.specs.State.{State}
use Rattle.state_groups.specs.StateValue.{state_of}
use Rattle.certificate_laws.specs.Places.{IsStateAt, in_codes}
use Rattle.certificate_laws.proofs.Places.{places_serve}
use Rattle.certificate_laws.proofs.PlaceStates.{states_have_codes}
use Rattle.certificate_laws.proofs.SortedKeys.{keys_before}
use Rattle.state_groups.specs.PlacedValues.{state_at, codes_of_set, codes_of_sets, IsPlaced}
use Rattle.state_groups.proofs.PlacedLemmas.{copied_below}
use Rattle.search_ends.specs.FinishedStates.{AreFinished}

module _ {C : Type 0} (test : C → ℕ → Bool) (order : List ℕ) where
  -- the codes of sets are those at their lists of places
  pub codes_of_lists : (sets : List C) → map (codes_at order) (lists_of (length order) test sets) ≡ codes_of_sets order test sets
  codes_of_lists sets = map_twice (codes_at order) (λ (s : C). places_of (length order) (test s)) sets

  -- copies of the closed groups, and the parts
  pub finished_value : (p : Problem) (held : StateHeld C) (copies parts new : List C) → IsOrder p order → IsPlaced (length order) test held → ((n : ℕ) → lists_of n test copies ≡ lists_of n test held.closed.items)
      → AreParts (at_places p order) (test held.rest) (lists_of (length order) test parts) → new ≡ copies ++ parts → AreFinished p (state_at order test held) (codes_of_sets order test new)
  finished_value p held copies parts new whole placed copied are e = record {
    parts = codes;
    are_parts = places_serve.parts p order s.rest t.rest (lists_of (length order) test parts) whole at.rest are;
    moved = subst (IsPermutation (s.closed ++ codes)) same (IsPermutation-refl (s.closed ++ codes));
  }
    where
      t : State
      t = state_of test held

      s : State
      s = state_at order test held

      at : IsStateAt order (in_codes order t) t
      at = states_have_codes.there order t (order_once p order whole) placed.rest

      codes : List (List ℕ)
      codes = map (codes_at order) (lists_of (length order) test parts)

      closed : s.closed ≡ codes_of_sets order test copies
      closed =
          ap (λ n. map (codes_at order) (lists_of n test held.closed.items)) placed.places
          ∙ (ap (map (codes_at order)) (sym (copied (length order))) ∙ codes_of_lists copies)

      same : s.closed ++ codes ≡ codes_of_sets order test new
      same =
          ap (λ z. z ++ codes) closed
          ∙ (ap (λ z. codes_of_sets order test copies ++ z) (codes_of_lists parts)
          ∙ (sym (map-append (codes_of_set order test) copies parts) ∙ ap (codes_of_sets order test) (sym e)))

  -- which have only places of the order
  pub finished_below : (held : StateHeld C) (copies parts new : List C) → IsPlaced (length order) test held → ((n : ℕ) → lists_of n test copies ≡ lists_of n test held.closed.items)
      → All (λ s. (x : ℕ) → test s x ≡ true → test held.rest x ≡ true) parts → new ≡ copies ++ parts → AreBelow (length order) test new
  finished_below held copies parts new placed copied inside e =
      subst (λ (z : List C). AreBelow (length order) test z) (sym e)
      (All-append IsBelow copies parts (copied_below C test (length order) held.closed.items copies copied placed.closed)
      (all_from_has IsBelow parts (λ s h x i. placed.rest x (has_all (λ s. (x : ℕ) → test s x ≡ true → test held.rest x ≡ true) parts inside s h x i))))
    where
      IsBelow : C → Type 0
      IsBelow s = (x : ℕ) → test s x ≡ true → x < length order

  -- they stay so in another order
  pub finished_moved : (p : Problem) (s : State) (sets others : List C) → IsPermutation sets others → AreFinished p s (codes_of_sets order test sets) → AreFinished p s (codes_of_sets order test others)
  finished_moved p s sets others moved are = record {
    parts = are.parts;
    are_parts = are.are_parts;
    moved = IsPermutation-trans (s.closed ++ are.parts) (codes_of_sets order test sets) (codes_of_sets order test others) are.moved (IsPermutation-map (codes_of_set order test) sets others moved);
  }

  -- each list of places stands in the order of places
  lists_ordered : (sets : List C) (g : List ℕ) → Contains (lists_of (length order) test sets) g → filter (contains g) (places_below (length order)) ≡ g
  lists_ordered sets g h =
      let r : (s : C) × Has sets s × (places_of (length order) (test s) ≡ g) = has_mapped (λ (s : C). places_of (length order) (test s)) sets g (has_from_contains (lists_of (length order) test sets) g h) in
      subst (λ z. filter (contains z) (places_below (length order)) ≡ z) r.2 (places_ordered (length order) (test r.0))

  -- and each list of codes in the order of codes
  pub codes_ordered : (once : (c : ℕ) → count c order ≤ 1) (p : Problem) (s : C) → filter (contains (codes_of_set order test s)) order ≡ codes_of_set order test s
  codes_ordered once p s = ordered_codes p order once (places_of (length order) (test s)) (places_ordered (length order) (test s))

  -- sets that are sorted by their keys stand by size and then by places, if they differ
  pub sorted_codes : ((c : ℕ) → count c order ≤ 1) → (sets : List C) → IsSortedBy (λ g h. is_lt (slice_cmp nat_cmp (sort_key g) (sort_key h))) (lists_of (length order) test sets)
      → AllPairs (λ g h. g ≢ h) (codes_of_sets order test sets) → AllPairs (IsBefore order) (codes_of_sets order test sets)
  sorted_codes once sets up differ =
      subst (AllPairs (IsBefore order)) (codes_of_lists sets)
      (codes_pairs order once (IsBefore (places_below (length order))) (IsBefore order) lists (λ g h. below_ordered (length order) g (lists_ordered sets g h)) (before_codes order once)
      (keys_before (length order) lists lists apart (IsPermutation-refl lists) up (lists_ordered sets)))
    where
      lists : List (List ℕ)
      lists = lists_of (length order) test sets

      codes_differ : AllPairs (λ g h. g ≢ h) (map (codes_at order) lists)
      codes_differ = subst (AllPairs (λ g h. g ≢ h)) (sym (codes_of_lists sets)) differ

      apart : AllPairs (λ g h. g ≡ h → ⊥) lists
      apart i j d l m e =
          let inside : i < length lists = omega (arith, l, m) in
          codes_differ i j (codes_at order d) l (omega (arith, m, length-map lists (codes_at order)))
          (get_or-map (codes_at order) lists i d (codes_at order d) inside ∙ (ap (codes_at order) e ∙ sym (get_or-map (codes_at order) lists j d (codes_at order d) m)))
