-- Seats of sets, added up.
use Rattle.std.specs.Prelude.{ℕ, ◌≡◌, ◌≤◌, ◌*◌, List, Option, Some, None, length, Contains}
use Rattle.std.specs.List.{AllZip}
use Rattle.grouping_laws.specs.Sets.{sum_by}
use Rattle.grouping_laws.specs.Problem.{Problem, Suits, people_of}
use Rattle.grouping_laws.specs.Ranges.{IsLeast, IsMost}

-- the least numbers of seats of the sets, added up, and the greatest, each at most 65,535
pub record AreSums (p : Problem) (sets : List (List ℕ)) (least greatest : ℕ) : Type 0 where
  pub lows : List ℕ
  pub highs : List ℕ
  pub are_lows : AllZip (IsLeast p) sets lows
  pub are_highs : AllZip (IsMost p) sets highs
  pub least_is : least ≡ sum_by (λ k. k) lows
  pub greatest_is : greatest ≡ sum_by (λ k. k) highs
  pub small : (least ≤ length sets * 65535) × (greatest ≤ length sets * 65535)

-- None where the people of some set suit no number
abbrev pub IsSums : Problem → List (List ℕ) → Option (ℕ × ℕ) → Type 0
IsSums p sets None = (set : List ℕ) × Contains sets set × ((k : ℕ) → ¬ Suits p (people_of p set) k)
IsSums p sets (Some r) = AreSums p sets r.0 r.1
