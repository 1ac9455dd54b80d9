-- That growing a set inside a region meets exactly the sets that a branch or a weigh line looks through.
use Rattle.std.specs.Prelude.{ℕ, ◌≡◌, ◌≤◌, ◌<◌, Bool, true, ◌&&◌, not, ◌==◌, nat_le, List, ◌↔◌}
use Rattle.std.specs.Cmp.Lexicographic.{slice_cmp}
use Rattle.std.specs.Ordering.{nat_cmp, is_lt}
use Rattle.std.specs.List.Sorted.{IsSortedBy, IsPermutation}
use Rattle.grouping_laws.specs.Problem.{Problem}
use Rattle.grouping_laws.specs.Places.{places_below}
use Rattle.grouping_laws.specs.GroupsFrom.{BeginsWith}
use Rattle.connected_laws.specs.Growing.{IsExtension, IsGrowth, AreKept, sort_key}
use Rattle.certificate_data.specs.Round.{Round}
use Rattle.certificate_laws.specs.State.{State, open_to}
use Rattle.certificate_laws.specs.Fitting.{Fits}
use Rattle.certificate_laws.specs.Groups.{IsSetAt, IsSetWithin, AreGroupsAt}

-- where the sets of a region that have a place begin: that place alone, and the region's other places free
pub record IsStartIn (n at : ℕ) (region set free : ℕ → Bool) : Type 0 where
  pub below : (x : ℕ) → region x ≡ true → x < n
  pub there : region at ≡ true
  pub set_is : (x : ℕ) → set x ≡ (x == at)
  pub free_is : (x : ℕ) → free x ≡ (region x && not (x == at))

-- the places of a region from one on
abbrev pub from_place : ℕ → (ℕ → Bool) → ℕ → Bool
from_place at region x = region x && nat_le at x

-- Growing inside a region, by places of an order.
pub record RegionsAreGrown : Type 0 where
  -- a search may begin at each place of a region
  pub growth : (p : Problem) (n limit at : ℕ) (region set free : ℕ → Bool) → 1 ≤ limit → IsStartIn n at region set free
      → IsGrowth p n limit set free
  -- inside what is open at a branch's limit it meets the sets that are looked through for the branch
  pub at_branch : (p : Problem) (n limit at : ℕ) (s : State) (set free : ℕ → Bool)
      → IsStartIn n at (open_to s limit) set free
      → (g : List ℕ) → IsExtension p n limit set free g ↔ IsSetAt p (places_below n) s at limit g
  -- inside what is open at a line's size, from a place on, those of the line that begin with the place
  pub of_size : (p : Problem) (n i at : ℕ) (s : State) (set free : ℕ → Bool)
      → IsStartIn n at (from_place at (open_to s i)) set free
      → (g : List ℕ) → IsExtension p n i set free g ↔ (IsSetWithin p (places_below n) s i g × BeginsWith at g)
  -- each set that is looked through for a line begins with some place that is open at the line's size
  pub begins : (p : Problem) (n i : ℕ) (s : State) (g : List ℕ) → IsSetWithin p (places_below n) s i g
      → (at : ℕ) × BeginsWith at g × (open_to s i at ≡ true)
  -- what is kept by a test of fitting and sorted by size and then by places is the list of the branch
  pub groups_at : (p : Problem) (round : Round) (n limit at : ℕ) (s : State) (set free : ℕ → Bool) (keep : List ℕ
      → Bool) (sets groups : List (List ℕ)) → round.order ≡ places_below n
      → IsStartIn n at (open_to s limit) set free
      → ((g : List ℕ) → IsSetAt p (places_below n) s at limit g → (keep g ≡ true) ↔ Fits round.format p s g)
      → AreKept p n limit keep set free sets → IsPermutation sets groups
      → IsSortedBy (λ g h. is_lt (slice_cmp nat_cmp (sort_key g) (sort_key h))) groups
      → AreGroupsAt p round s at limit groups
