-- What one list of groups and one list of connected parts decide.
use Rattle.std.specs.Prelude.{ℕ, Bool, ◌≡◌, ◌≤◌, ◌<◌, true, List, ◌++◌, length, ◌⊎◌, ◌↔◌, Contains, All}
use Rattle.std.specs.List.{AllZip}
use Rattle.grouping_laws.specs.Sets.{sum_by, contains, SameSet}
use Rattle.grouping_laws.specs.Problem.{Problem, IsProblem}
use Rattle.grouping_laws.specs.Parts.{IsPart, AreParts}
use Rattle.grouping_laws.specs.GroupsFrom.{IsOrder}
use Rattle.grouping_laws.specs.Ranges.{IsLeast, IsMost, SuitAll}
use Rattle.certificate_data.specs.Round.{Round}
use Rattle.certificate_laws.specs.Regions.{without}
use Rattle.certificate_laws.specs.State.{State, close}
use Rattle.certificate_laws.specs.StuckParts.{CannotFill}
use Rattle.certificate_laws.specs.Fitting.{IsDead, Fits}
use Rattle.certificate_laws.specs.Leaves.{IsStuck, IsOffSeats}
use Rattle.certificate_laws.specs.Groups.{AreGroupsAt, AreGroupsOf}

-- What a checker finds by one list decides a branch or a leaf, so that its No is right too.
pub record LeavesAreDecided : Type 0 where
  -- the lists of groups are one list
  pub groups_at : (p : Problem) (round : Round) (s : State) (c j : ℕ) (xs ys : List (List ℕ))
      → AreGroupsAt p round s c j xs → AreGroupsAt p round s c j ys → xs ≡ ys
  pub groups_of_size : (p : Problem) (round : Round) (s : State) (i : ℕ) (xs ys : List (List ℕ))
      → AreGroupsOf p round s i xs → AreGroupsOf p round s i ys → xs ≡ ys
  -- the part around a county is one set, and the stuck leaf goes by it
  pub part : (p : Problem) (region : ℕ → Bool) (xs ys : List ℕ) (c : ℕ) → IsPart p region xs → IsPart p region ys
      → contains xs c ≡ true → contains ys c ≡ true → SameSet xs ys
  pub stuck : (p : Problem) (s : State) (xs : List ℕ) (c : ℕ) → IsPart p s.rest xs → contains xs c ≡ true → IsStuck p s c
      → CannotFill p s xs
  -- a group is dead exactly where one of the parts of what it leaves is stuck, which is where a stuck leaf is valid
  -- once it is closed
  pub dead : (p : Problem) (s : State) (g : List ℕ) (parts : List (List ℕ)) → AreParts p (without g s.rest) parts
      → IsDead p s g ↔ ((part : List ℕ) × Contains parts part × CannotFill p s part)
  pub dead_closed : (p : Problem) (s : State) (g : List ℕ) → IsDead p s g ↔ ((c : ℕ) × IsStuck p (close g s) c)
  -- a line's weights are fair where they are so for the groups of one list
  pub fair : (p : Problem) (round : Round) (s : State) (i quota : ℕ) (w : ℕ → ℕ) (groups : List (List ℕ))
      → IsOrder p round.order → AreGroupsOf p round s i groups → All (λ g. quota ≤ sum_by w g) groups
      → (g : List ℕ) → Fits round.format p s g → length g ≡ i → quota ≤ sum_by w g
  -- the seats leaf goes by any list of the parts, all of which then suit some seats
  pub seats : (p : Problem) (s : State) (parts : List (List ℕ)) → AreParts p s.rest parts → IsOffSeats p s
      → ((ks : List ℕ) × SuitAll p parts ks)
      × ((lows highs : List ℕ) → AllZip (IsLeast p) (s.closed ++ parts) lows
      → AllZip (IsMost p) (s.closed ++ parts) highs
      → (p.seats_left < sum_by (λ k. k) lows) ⊎ (sum_by (λ k. k) highs < p.seats_left))
  -- there is a list of the parts of every region
  pub parts : (p : Problem) → IsProblem p → (region : ℕ → Bool)
      → ((c : ℕ) → region c ≡ true → contains p.counties c ≡ true) → (parts : List (List ℕ)) × AreParts p region parts
