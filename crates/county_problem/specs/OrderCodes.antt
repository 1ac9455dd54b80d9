-- The codes of sets of places of an order.
use Rattle.std.specs.Prelude.{ℕ, Bool, List, map, length}
use Rattle.place_sets.specs.PlaceSets.{places_of}
use Rattle.grouping_laws.specs.Places.{codes_at}

-- the codes of a set's places, in their order
abbrev pub codes_of_set : {C : Type 0} → List ℕ → (C → ℕ → Bool) → C → List ℕ
codes_of_set order test set = codes_at order (places_of (length order) (test set))

-- for each set, the codes of its places, in their order
abbrev pub codes_of_sets : {C : Type 0} → List ℕ → (C → ℕ → Bool) → List C → List (List ℕ)
codes_of_sets order test sets = map (codes_of_set order test) sets
