-- Lists of places that are sorted by size and then by places.
use Rattle.std.proofs.Common.{◌≡◌, ℕ, ◌<◌, List, map, filter, length, get_or, sym, subst, arith, ◌⊎◌, inl, inr, ⊎_elim, Contains, AllPairs}
use Rattle.std.specs.Cmp.Lexicographic.{slice_cmp}
use Rattle.std.specs.Ordering.{nat_cmp, is_lt}
use Rattle.std.specs.List.Sorted.{IsSortedBy, IsPermutation}
use Rattle.std.proofs.lemmas.List.Sorted.{Contains-permutation, IsPermutation-sym, length_permutation}
use Rattle.std.proofs.lemmas.List.Elements.{Contains-get_or}
use Rattle.grouping_laws.specs.Sets.{contains}
use Rattle.grouping_laws.specs.Places.{places_below}
use Rattle.grouping_laws.specs.GroupsFrom.{IsBefore, IsLesser, place}
use Rattle.grouping_laws.proofs.Elements.{has_from_contains, contains_from_has}
use Rattle.grouping_laws.proofs.PlaceCodes.{places_here}
use Rattle.grouping_laws.proofs.PlaceProblem.{below_ordered}
use Rattle.connected_laws.specs.Growing.{sort_key}
use Rattle.connected_laws.proofs.Distinct.{Distinct, distinct_from_pairs, distinct_moved}
use Rattle.connected_laws.proofs.Sorting.{sorted_before}

-- distinct lists of places, sorted by their keys, stand by size and then by lists of places
pub keys_before : (n : ℕ) (sets groups : List (List ℕ)) → AllPairs (λ g h. g ≡ h → ⊥) sets → IsPermutation sets groups → IsSortedBy (λ g h. is_lt (slice_cmp nat_cmp (sort_key g) (sort_key h))) groups
    → ((g : List ℕ) → Contains groups g → filter (contains g) (places_below n) ≡ g) → AllPairs (IsBefore (places_below n)) groups
keys_before n sets groups once moved sorted ordered = λ i j d l m. before (get_or groups i d) (get_or groups j d) (below (get_or groups i d) (Contains-get_or groups i d (omega arith))) (below (get_or groups j d) (Contains-get_or groups j d m)) (sorted_before groups sorted distinct i j d l m)
  where
    distinct : Distinct groups
    distinct = distinct_moved groups sets (distinct_from_pairs sets once) (sym (length_permutation sets groups moved))
        (λ g h. has_from_contains groups g (Contains-permutation sets groups g moved (contains_from_has sets g h)))
        (λ g h. has_from_contains sets g (Contains-permutation groups sets g (IsPermutation-sym sets groups moved) (contains_from_has groups g h)))

    below : (g : List ℕ) → Contains groups g → map (place (places_below n)) g ≡ g
    below g c = places_here n g (below_ordered n g (ordered g c))

    before : (g h : List ℕ) → map (place (places_below n)) g ≡ g → map (place (places_below n)) h ≡ h → (length g < length h) ⊎ ((length g ≡ length h) × IsLesser g h) → IsBefore (places_below n) g h
    before g h e f r = ⊎_elim inl (λ k. inr (k.0, subst (λ z. IsLesser z (map (place (places_below n)) h)) (sym e) (subst (λ z. IsLesser g z) (sym f) k.1))) r
