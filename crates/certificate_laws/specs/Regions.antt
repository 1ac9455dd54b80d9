-- Regions of counties, each said by the test of which codes are in it.
use Rattle.std.specs.Prelude.{ℕ, Bool, not, ◌&&◌, List, filter}
use Rattle.grouping_laws.specs.Sets.{contains}
use Rattle.grouping_laws.specs.Problem.{Problem}

-- the counties of a region that a group doesn't have
abbrev pub without : List ℕ → (ℕ → Bool) → ℕ → Bool
without g region c = region c && not (contains g c)

-- the counties of the problem in a region
abbrev pub listed : Problem → (ℕ → Bool) → List ℕ
listed p region = filter region p.counties
