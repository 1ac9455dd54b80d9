-- Sets of places of an order, and the codes at them.
use Rattle.std.specs.Prelude.{ℕ, ◌≡◌, ◌≤◌, ◌<◌, Bool, true, List, map, filter, length, get_or, All}
use Rattle.grouping_laws.specs.Sets.{count, contains}
use Rattle.grouping_laws.specs.GroupsFrom.{place}
pub use Rattle.place_sets.specs.Lists.{places_below}

-- the codes at places of an order
abbrev pub codes_at : List ℕ → List ℕ → List ℕ
codes_at order places = map (λ i. get_or order i 0) places

-- How sets of places and sets of codes go together, for an order that names each code once.
pub record PlacesAreCodes : Type 0 where
  -- the codes at the places that pass a test, in ascending order, are the codes whose places pass it, in the order's
  -- order
  pub kept : (order : List ℕ) → ((c : ℕ) → count c order ≤ 1) → (test : ℕ → Bool)
      → codes_at order (filter test (places_below (length order))) ≡ filter (λ c. test (place order c)) order
  -- the places of the codes at places are those places
  pub back : (order : List ℕ) → ((c : ℕ) → count c order ≤ 1) → (places : List ℕ) → All (λ i. i < length order) places
      → map (place order) (codes_at order places) ≡ places
  -- a code of the order stands at its place
  pub there : (order : List ℕ) (c : ℕ) → contains order c ≡ true
      → (place order c < length order) × (get_or order (place order c) 0 ≡ c)
