-- The sets that all listed groupings have. A listed grouping is seen as the list of its groups' sets.
use Rattle.std.specs.Prelude.{ℕ, Bool, not, nat_eq, List, [], ◌∷◌, filter, flat_map}
use Rattle.std.specs.List.{list_any, list_all}
use Rattle.std.specs.Cmp.Lexicographic.{pointwise}

-- whether two groupings have the same sets in the same order
abbrev pub same_sets : List (List ℕ) → List (List ℕ) → Bool
same_sets = pointwise (pointwise nat_eq)

-- whether a set stands in a list of sets
abbrev pub has_set : List (List ℕ) → List ℕ → Bool
has_set sets s = list_any (λ x. pointwise nat_eq x s) sets

-- the sets of the first listed grouping
abbrev pub first_sets : List (List (List ℕ)) → List (List ℕ)
first_sets [] = []
first_sets (g ∷ gs) = g

-- the shared sets: those sets of the first listed grouping that each listed grouping has
abbrev pub shared_sets : List (List (List ℕ)) → List (List ℕ)
shared_sets listed = filter (λ s. list_all (λ g. has_set g s) listed) (first_sets listed)

-- the sets of all listed groupings that are not shared, one grouping after the other
abbrev pub unshared_sets : List (List ℕ) → List (List (List ℕ)) → List (List ℕ)
unshared_sets shared listed = flat_map (λ g. filter (λ s. not (has_set shared s)) g) listed
