-- The extensions of a start that suit some seats, sorted, are the groups from the place.
use Rattle.std.proofs.Common.{◌≡◌, ℕ, ◌<◌, Bool, true, List, map, length, get_or, sym, subst, arith, ◌⊎◌, inl, inr, ⊎_elim, Contains}
use Rattle.std.specs.Cmp.Lexicographic.{slice_cmp}
use Rattle.std.specs.Ordering.{nat_cmp, is_lt}
use Rattle.std.specs.List.Sorted.{IsSortedBy, IsPermutation}
use Rattle.std.proofs.lemmas.List.Sorted.{Contains-permutation, IsPermutation-sym, length_permutation}
use Rattle.std.proofs.lemmas.List.Elements.{Contains-get_or}
use Rattle.grouping_laws.specs.Sets.{contains}
use Rattle.grouping_laws.specs.Problem.{Problem}
use Rattle.grouping_laws.specs.Places.{places_below}
use Rattle.grouping_laws.specs.GroupsFrom.{IsGroupFrom, AreGroupsFrom, IsBefore, IsLesser, place}
use Rattle.grouping_laws.proofs.Elements.{has_from_contains, contains_from_has}
use Rattle.grouping_laws.proofs.PlaceCodes.{places_here}
use Rattle.grouping_laws.proofs.PlaceProblem.{below_ordered}
use Rattle.connected_laws.specs.Growing.{AreKept, IsStart, TestsSuiting, sort_key}
use Rattle.connected_laws.proofs.Distinct.{Distinct, distinct_from_pairs, distinct_moved}
use Rattle.connected_laws.proofs.Starts.{group_from, from_group}
use Rattle.connected_laws.proofs.Sorting.{sorted_before}

-- the definition of the list of groups from a place, met
pub are_groups : (p : Problem) (n limit at : ℕ) (set free : ℕ → Bool) (keep : List ℕ → Bool) (sets groups : List (List ℕ)) → ((x : ℕ) → x < n → contains p.counties x ≡ true) → IsStart n at set free
    → TestsSuiting p keep → AreKept p n limit keep set free sets → IsPermutation sets groups
    → IsSortedBy (λ g h. is_lt (slice_cmp nat_cmp (sort_key g) (sort_key h))) groups → AreGroupsFrom p (places_below n) limit at (λ x. true) groups
are_groups p n limit at set free keep sets groups known start test are moved sorted = record {
  each = λ g. (there g, back g);
  sorted = λ i j d l m. before (get_or groups i d) (get_or groups j d) (below (get_or groups i d) (Contains-get_or groups i d (omega arith))) (below (get_or groups j d) (Contains-get_or groups j d m)) (sorted_before groups sorted distinct i j d l m);
}
  where
    out : (g : List ℕ) → Contains groups g → Contains sets g
    out g c = Contains-permutation groups sets g (IsPermutation-sym sets groups moved) c

    into : (g : List ℕ) → Contains sets g → Contains groups g
    into g c = Contains-permutation sets groups g moved c

    distinct : Distinct groups
    distinct = distinct_moved groups sets (distinct_from_pairs sets are.once) (sym (length_permutation sets groups moved))
        (λ g h. has_from_contains groups g (into g (contains_from_has sets g h))) (λ g h. has_from_contains sets g (out g (contains_from_has groups g h)))

    there : (g : List ℕ) → Contains groups g → IsGroupFrom p (places_below n) limit at (λ x. true) g
    there g c =
        let h = (are.each g).0 (out g c) in
        let s = test.passes g h.1 in
        group_from p n limit at set free known start g h.0 s.0 s.1

    back : (g : List ℕ) → IsGroupFrom p (places_below n) limit at (λ x. true) g → Contains groups g
    back g x = into g ((are.each g).1 (from_group p n limit at set free start g x, test.every g x.lawful.seats x.lawful.suits))

    below : (g : List ℕ) → Contains groups g → map (place (places_below n)) g ≡ g
    below g c =
        let x : IsGroupFrom p (places_below n) limit at (λ x. true) g = there g c in
        places_here n g (below_ordered n g x.in_order)

    before : (g h : List ℕ) → map (place (places_below n)) g ≡ g → map (place (places_below n)) h ≡ h → (length g < length h) ⊎ ((length g ≡ length h) × IsLesser g h) → IsBefore (places_below n) g h
    before g h e f r = ⊎_elim inl (λ k. inr (k.0, subst (λ z. IsLesser z (map (place (places_below n)) h)) (sym e) (subst (λ z. IsLesser g z) (sym f) k.1))) r
