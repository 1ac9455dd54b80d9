-- Where a leaf is valid. Both the stuck and the seats leaf rest on the seat window: the people of disjoint groups that
-- suit their seats suit the sum of these together.
use Rattle.std.specs.Prelude.{ℕ, ◌≡◌, ◌<◌, true, List, ◌++◌, ◌⊎◌}
use Rattle.std.specs.List.{AllZip}
use Rattle.grouping_laws.specs.Sets.{sum_by, contains}
use Rattle.grouping_laws.specs.Problem.{Problem}
use Rattle.grouping_laws.specs.Parts.{IsPart, AreParts}
use Rattle.grouping_laws.specs.Ranges.{IsLeast, IsMost}
use Rattle.certificate_data.specs.Round.{Round}
use Rattle.certificate_laws.specs.State.{State}
use Rattle.certificate_laws.specs.StuckParts.{CannotFill}
use Rattle.certificate_data.specs.Tree.{Leaf, stuck, seats, bound}
use Rattle.certificate_laws.specs.BoundLines.{IsBound}

-- the connected part of the rest around the county is stuck
pub record IsStuck (p : Problem) (s : State) (county : ℕ) : Type 0 where
  pub part : List ℕ
  pub is_part : IsPart p s.rest part
  pub around : contains part county ≡ true
  pub cannot_fill : CannotFill p s part

-- Each connected part of the rest suits some number of seats, and the least numbers over closed groups and parts
-- add up to more than the seats left, or the greatest to less.
pub record IsOffSeats (p : Problem) (s : State) : Type 0 where
  pub parts : List (List ℕ)
  pub are_parts : AreParts p s.rest parts
  pub ranges : List ℕ
  pub off : (AllZip (IsLeast p) (s.closed ++ parts) ranges × (p.seats_left < sum_by (λ k. k) ranges))
      ⊎ (AllZip (IsMost p) (s.closed ++ parts) ranges × (sum_by (λ k. k) ranges < p.seats_left))

-- the leaf is valid at the state
abbrev pub IsValidLeaf : Problem → Round → State → Leaf → Type 0
IsValidLeaf p round s (stuck county) = IsStuck p s county
IsValidLeaf p round s seats = IsOffSeats p s
IsValidLeaf p round s (bound lines) = IsBound p round s lines
