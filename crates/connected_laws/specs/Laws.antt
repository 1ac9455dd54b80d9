-- Laws of growing sets.
use Rattle.std.specs.Prelude.{ℕ, ◌≡◌, ◌<◌, Bool, true, false, List, [], ◌∷◌, ◌++◌}
use Rattle.std.specs.Cmp.Lexicographic.{slice_cmp}
use Rattle.std.specs.Ordering.{nat_cmp, is_lt}
use Rattle.std.specs.List.Sorted.{IsSortedBy, IsPermutation}
use Rattle.grouping_laws.specs.Sets.{contains}
use Rattle.grouping_laws.specs.Problem.{Problem}
use Rattle.grouping_laws.specs.Places.{places_below}
use Rattle.place_sets.specs.PlaceSets.{places_of}
use Rattle.grouping_laws.specs.GroupsFrom.{AreGroupsFrom, IsSetFrom}
use Rattle.connected_laws.specs.Growing.{IsExtension, AreKept, IsGrowth, IsWhole, IsMove, IsStart, TestsSuiting}
use Rattle.connected_laws.specs.Growing.{sort_key}

-- of a whole set, it alone is kept if it passes the test
abbrev pub LeafIsFound : Type 0
LeafIsFound =
    (p : Problem) (n limit : ℕ) (keep : List ℕ → Bool) (set free : ℕ → Bool) → IsGrowth p n limit set free
    → IsWhole p n limit set free
    → keep (places_of n set) ≡ true → AreKept p n limit keep set free (places_of n set ∷ [])

-- a free place is in a set or isn't: what is kept with it, and then what is kept without it
abbrev pub ForkIsFound : Type 0
ForkIsFound =
    (p : Problem) (n limit : ℕ) (keep : List ℕ → Bool) (set free more less : ℕ → Bool) (c : ℕ) (xs ys : List (List ℕ))
    → IsGrowth p n limit set free → free c ≡ true → IsMove set free more less c
    → AreKept p n limit keep more less xs → AreKept p n limit keep set less ys
    → AreKept p n limit keep set free (xs ++ ys)

-- nothing is kept where no extension passes the test
abbrev pub NothingIsLost : Type 0
NothingIsLost =
    (p : Problem) (n limit : ℕ) (keep : List ℕ → Bool) (set free : ℕ → Bool)
    → ((g : List ℕ) → IsExtension p n limit set free g → keep g ≡ false) → AreKept p n limit keep set free []

-- what is kept from a place by a test of suiting, sorted by size and then by places, are the groups from the place
abbrev pub KeptAreGroups : Type 0
KeptAreGroups =
    (p : Problem) (n limit at : ℕ) (set free : ℕ → Bool) (keep : List ℕ → Bool) (sets groups : List (List ℕ))
    → ((x : ℕ) → x < n → contains p.counties x ≡ true) → IsStart n at set free
    → TestsSuiting p keep → AreKept p n limit keep set free sets → IsPermutation sets groups
    → IsSortedBy (λ g h. is_lt (slice_cmp nat_cmp (sort_key g) (sort_key h))) groups
    → AreGroupsFrom p (places_below n) limit at (λ x. true) groups

-- the extensions of a start are the connected sets from the place
abbrev pub ExtensionsAreSets : Type 0
ExtensionsAreSets =
    (p : Problem) (n limit at : ℕ) (set free : ℕ → Bool) → IsStart n at set free → (g : List ℕ)
    → IsExtension p n limit set free g → IsSetFrom p (places_below n) limit at g
