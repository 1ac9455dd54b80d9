-- Sets of places, each said by the test of which places it has.
use Rattle.std.specs.Prelude.{ℕ, ◌≡◌, ◌≤◌, ◌<◌, Bool, true, false, Option, Some, None, List, ◌∷◌, length, filter, map}
use Rattle.std.specs.Prelude.{All}
use Rattle.place_sets.specs.Lists.{places_below}

-- the places below n that a set has, ascending
abbrev pub places_of : ℕ → (ℕ → Bool) → List ℕ
places_of n test = filter test (places_below n)

-- the least place of the set at or above a given one; None where there is none
abbrev pub IsNext : (ℕ → Bool) → ℕ → Option ℕ → Type 0
IsNext test from None = (x : ℕ) → from ≤ x → test x ≡ false
IsNext test from (Some c) = (from ≤ c) × (test c ≡ true) × ((x : ℕ) → from ≤ x → x < c → test x ≡ false)

-- whether two sets have a place in common
abbrev pub Meets : (ℕ → Bool) → (ℕ → Bool) → Bool → Type 0
Meets a b true = (x : ℕ) × (a x ≡ true) × (b x ≡ true)
Meets a b false = (x : ℕ) → a x ≡ true → b x ≡ false

-- whether each place of the first set is in the second
abbrev pub LiesWithin : (ℕ → Bool) → (ℕ → Bool) → Bool → Type 0
LiesWithin a b true = (x : ℕ) → a x ≡ true → b x ≡ true
LiesWithin a b false = (x : ℕ) × (a x ≡ true) × (b x ≡ false)

-- how many places a set has: it is counted below any bound that its places keep
abbrev pub IsSize : (ℕ → Bool) → ℕ → Type 0
IsSize test size = (n : ℕ) → ((x : ℕ) → test x ≡ true → x < n) → size ≡ length (places_of n test)

-- the size of a set and then its places below n, by which sets are sorted
abbrev pub sized : ℕ → (ℕ → Bool) → List ℕ
sized n test = length (places_of n test) ∷ places_of n test

-- a list is sorted by its size, then by its places
abbrev pub sort_key : List ℕ → List ℕ
sort_key g = length g ∷ g

-- the lists of places of sets
abbrev pub lists_of : {C : Type 0} → ℕ → (C → ℕ → Bool) → List C → List (List ℕ)
lists_of n test sets = map (λ s. places_of n (test s)) sets

-- each set has only places below n
abbrev pub AreBelow : {C : Type 0} → ℕ → (C → ℕ → Bool) → List C → Type 0
AreBelow n test sets = All (λ s. (x : ℕ) → test s x ≡ true → x < n) sets
