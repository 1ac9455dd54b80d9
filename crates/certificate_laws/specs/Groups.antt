-- Lists of the groups that fit a state: at a county, for a branch, and of one size, for a search or a weigh line. The
-- groups are sorted by size and then by places, so that there is one list.
use Rattle.std.specs.Prelude.{ℕ, ◌≡◌, ◌≤◌, true, List, length, AllPairs, Contains, filter, ◌↔◌}
use Rattle.grouping_laws.specs.Sets.{contains, Inside}
use Rattle.grouping_laws.specs.Problem.{Problem, Connected}
use Rattle.grouping_laws.specs.GroupsFrom.{IsBefore}
use Rattle.certificate_data.specs.Round.{Round}
use Rattle.certificate_laws.specs.State.{State, open_to}
use Rattle.certificate_laws.specs.Fitting.{Fits}

-- a group that fits, has the county and has at most `limit` counties, its codes in the order of places
pub record IsGroupAt (p : Problem) (round : Round) (s : State) (county limit : ℕ) (g : List ℕ) : Type 0 where
  pub fits : Fits round.format p s g
  pub in_order : filter (contains g) round.order ≡ g
  pub has : contains g county ≡ true
  pub small : length g ≤ limit

-- all of them, sorted by size and then by lists of places
pub record AreGroupsAt (p : Problem) (round : Round) (s : State) (county limit : ℕ)
    (groups : List (List ℕ)) : Type 0 where
  pub each : (g : List ℕ) → Contains groups g ↔ IsGroupAt p round s county limit g
  pub sorted : AllPairs (IsBefore round.order) groups

-- a group of i counties that fits, its codes in the order of places
pub record IsGroupOf (p : Problem) (round : Round) (s : State) (i : ℕ) (g : List ℕ) : Type 0 where
  pub fits : Fits round.format p s g
  pub in_order : filter (contains g) round.order ≡ g
  pub size : length g ≡ i

-- all of them, sorted by lists of places
pub record AreGroupsOf (p : Problem) (round : Round) (s : State) (i : ℕ) (groups : List (List ℕ)) : Type 0 where
  pub each : (g : List ℕ) → Contains groups g ↔ IsGroupOf p round s i g
  pub sorted : AllPairs (IsBefore round.order) groups

-- The connected sets that are looked through for a branch's groups: those that have the county, have at most `limit`
-- counties and lie among those open to groups of `limit` counties.
pub record IsSetAt (p : Problem) (order : List ℕ) (s : State) (county limit : ℕ) (g : List ℕ) : Type 0 where
  pub connected : Connected p g
  pub in_order : filter (contains g) order ≡ g
  pub has : contains g county ≡ true
  pub small : length g ≤ limit
  pub inside : Inside (open_to s limit) g

-- The connected sets that are looked through for the groups of i counties: those of at most i counties, all of them
-- open to groups of i counties.
pub record IsSetWithin (p : Problem) (order : List ℕ) (s : State) (i : ℕ) (g : List ℕ) : Type 0 where
  pub connected : Connected p g
  pub in_order : filter (contains g) order ≡ g
  pub small : length g ≤ i
  pub inside : Inside (open_to s i) g
