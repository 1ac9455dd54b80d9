-- The counties with the first counties of their regions, as a list.
use Rattle.std.specs.Prelude.{ℕ, min, List, fold, map, filter, if◌then◌else◌}
use Rattle.grouping_laws.specs.Sets.{contains}
use Rattle.list_report.specs.declared.regions.Place.{Place}

-- each county with the first county of its region
abbrev pub places_at : (ℕ → ℕ) → List ℕ → List Place
places_at first unshared = map (λ c. record { county = c; first = first c }) unshared

-- the first counties of the regions that a set meets
abbrev pub places_met : List Place → List ℕ → List ℕ
places_met places s = map (λ p. p.first) (filter (λ p. contains s p.county) places)

-- the first county of a region, once those regions are one whose first counties are met
abbrev pub moved : List ℕ → ℕ → ℕ
moved met first = if contains met first then fold min first met else first
