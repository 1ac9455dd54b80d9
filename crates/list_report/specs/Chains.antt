-- What the regions are: two counties lie in one exactly where a chain of sets joins them.
use Rattle.std.specs.Prelude.{ℕ, ◌≡◌, ◌≤◌, ◌↔◌, true, List, map, All, Contains}
use Rattle.grouping_laws.specs.Sets.{contains}
use Rattle.grouping_laws.specs.Problem.{Problem}
use Rattle.grouping_laws.specs.Grouping.{Grouping, Lawful, sets_of}
use Rattle.list_report.specs.SharedSets.{shared_sets, unshared_sets}
use Rattle.list_report.specs.Regions.{unshared_counties, first_county, regions}

-- a chain of the sets from one county to another: each set has the county where the next begins
pub data Joined (sets : List (List ℕ)) : ℕ → ℕ → Type 0 where
  here : (x : ℕ) → Joined sets x x
  along : (x y z : ℕ) (s : List ℕ) → Contains sets s → contains s x ≡ true → contains s y ≡ true → Joined sets y z
      → Joined sets x z

-- two counties lie in one of the regions
abbrev pub InOneRegion : List ℕ → List (List ℕ) → ℕ → ℕ → Type 0
InOneRegion unshared sets x y =
    (region : List ℕ) × Contains (regions unshared sets) region × (contains region x ≡ true) × (contains region y ≡ true)

-- of lawful groupings: two counties that no shared set has lie in one region exactly where a chain of sets that are not
-- shared joins them
abbrev pub RegionsAreJoined : Type 0
RegionsAreJoined =
    (p : Problem) (groupings : List Grouping) → All (Lawful p) groupings →
    let listed = map sets_of groupings in
    let shared = shared_sets listed in
    let unshared = unshared_counties p.counties shared in
    let sets = unshared_sets shared listed in
    (x y : ℕ) → contains unshared x ≡ true → contains unshared y ≡ true → InOneRegion unshared sets x y ↔ Joined sets x y

-- the first county of a region is its least
abbrev pub FirstIsLeast : Type 0
FirstIsLeast = (unshared : List ℕ) (sets : List (List ℕ)) (c : ℕ) → first_county unshared sets c ≤ c
