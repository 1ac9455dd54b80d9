-- The regions: what the sets that are not shared join of the counties that no shared set has.
use Rattle.std.specs.Prelude.{ℕ, ◌==◌, not, min, List, fold, map, filter, if◌then◌else◌}
use Rattle.std.specs.List.{list_any}
use Rattle.grouping_laws.specs.Sets.{contains}

-- the counties of no shared set
abbrev pub unshared_counties : List ℕ → List (List ℕ) → List ℕ
unshared_counties counties shared = filter (λ c. not (list_any (λ s. contains s c) shared)) counties

-- the first counties of the regions that a set meets, where `first` tells the first county of each county's region
abbrev pub met : List ℕ → (ℕ → ℕ) → List ℕ → List ℕ
met unshared first s = map first (filter (contains s) unshared)

-- the set makes one region of those that it meets; the least of their first counties is its first
abbrev pub join : List ℕ → (ℕ → ℕ) → List ℕ → ℕ → ℕ
join unshared first s c =
    if contains (met unshared first s) (first c) then fold min (first c) (met unshared first s) else first c

-- the first county of each county's region: each county begins as a region of its own, and then set after set joins
abbrev pub first_county : List ℕ → List (List ℕ) → ℕ → ℕ
first_county unshared sets = fold (join unshared) (λ c. c) sets

-- the counties of each region, by its first county
abbrev pub regions : List ℕ → List (List ℕ) → List (List ℕ)
regions unshared sets =
    let first = first_county unshared sets in
    map (λ r. filter (λ c. first c == r) unshared) (filter (λ c. first c == c) unshared)
