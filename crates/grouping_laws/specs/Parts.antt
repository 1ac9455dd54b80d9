-- The connected parts of a region of counties.
use Rattle.std.specs.Prelude.{ℕ, ◌≡◌, ◌≤◌, Bool, true, List, All}
use Rattle.grouping_laws.specs.Sets.{indicator, count, count_in, contains, Inside}
use Rattle.grouping_laws.specs.Problem.{Problem, Connected}

-- a connected part of a region: connected, inside the region, and no county of the region outside it is adjacent to it
pub record IsPart (p : Problem) (region : ℕ → Bool) (codes : List ℕ) : Type 0 where
  pub once : (c : ℕ) → count c codes ≤ 1
  pub connected : Connected p codes
  pub inside : Inside region codes
  pub whole : (x y : ℕ) → contains codes x ≡ true → region y ≡ true → p.adjacent x y ≡ true → contains codes y ≡ true

-- the connected parts of a region, each county of the region in one of them
pub record AreParts (p : Problem) (region : ℕ → Bool) (parts : List (List ℕ)) : Type 0 where
  pub each : All (IsPart p region) parts
  pub once : (c : ℕ) → count_in c parts ≡ indicator (region c)
