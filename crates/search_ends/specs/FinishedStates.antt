-- The sets of a finished state: its closed groups and the connected parts of its rest, in some order.
use Rattle.std.specs.Prelude.{ℕ, ◌≡◌, ◌≤◌, List, ◌++◌, All}
use Rattle.std.specs.List.Sorted.{IsPermutation}
use Rattle.county_codes.specs.declared.group.Group.{Group}
use Rattle.grouping_laws.specs.Sets.{indicator, sum_by, count_in, contains}
use Rattle.grouping_laws.specs.Problem.{Problem}
use Rattle.grouping_laws.specs.Parts.{AreParts}
use Rattle.grouping_laws.specs.Ranges.{SuitAll}
use Rattle.certificate_laws.specs.State.{State}

-- the closed groups and the connected parts of the rest
pub record AreFinished (p : Problem) (s : State) (sets : List (List ℕ)) : Type 0 where
  pub parts : List (List ℕ)
  pub are_parts : AreParts p s.rest parts
  pub moved : IsPermutation (s.closed ++ parts) sets

-- each county of the problem lies in one of the sets, and no other code does
abbrev pub CoverOnce : Problem → List (List ℕ) → Type 0
CoverOnce p sets = (c : ℕ) → count_in c sets ≡ indicator (contains p.counties c)

-- some seats suit the sets and add up to the seats left
abbrev pub CanSeat : Problem → List (List ℕ) → Type 0
CanSeat p sets = (ks : List ℕ) × SuitAll p sets ks × (sum_by (λ k. k) ks ≡ p.seats_left)

-- the seats of a group and its codes are in their ranges
pub record HasNumbers (m : Group) : Type 0 where
  pub seats : m.seats ≤ 65535
  pub codes : All (λ c. c ≤ 99999) m.codes
