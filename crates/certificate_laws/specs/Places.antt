-- The format by the places of the round's order: what is found there holds of the codes.
use Rattle.std.specs.Prelude.{ℕ, ◌≡◌, ◌≤◌, ◌<◌, Bool, true, ◌&&◌, cond, List, map, filter, length, ◌↔◌}
use Rattle.grouping_laws.specs.Sets.{sum_by, count, contains}
use Rattle.grouping_laws.specs.Problem.{Problem, IsProblem}
use Rattle.grouping_laws.specs.Parts.{IsPart, AreParts}
use Rattle.grouping_laws.specs.GroupsFrom.{IsOrder, place}
use Rattle.grouping_laws.specs.Places.{places_below, codes_at}
use Rattle.place_sets.specs.PlaceSets.{places_of}
use Rattle.county_problem.specs.OrderedValue.{code_at, at_places}
use Rattle.certificate_data.specs.Round.{Round}
use Rattle.certificate_laws.specs.Regions.{listed}
use Rattle.certificate_laws.specs.State.{State, empty_state, close, raise}
use Rattle.certificate_laws.specs.StuckParts.{CannotFill}
use Rattle.certificate_laws.specs.Fitting.{Fits}
use Rattle.certificate_laws.specs.Groups.{AreGroupsAt, AreGroupsOf}

-- a region of codes of an order, and the region of their places
pub record IsRegionAt (order : List ℕ) (region places : ℕ → Bool) : Type 0 where
  pub same : (i : ℕ) → i < length order → places i ≡ region (code_at order i)
  pub below : (i : ℕ) → places i ≡ true → i < length order
  pub known : (c : ℕ) → region c ≡ true → contains order c ≡ true

-- a state, and a state by places with the same rest and the same least sizes
pub record IsStateAt (order : List ℕ) (s t : State) : Type 0 where
  pub rest : IsRegionAt order s.rest t.rest
  pub least : (i : ℕ) → i < length order → t.least i ≡ s.least (code_at order i)

-- the state by codes of an order that a state by its places says
abbrev pub in_codes : List ℕ → State → State
in_codes order t = record {
  closed = map (codes_at order) t.closed;
  rest = λ c. contains order c && t.rest (place order c);
  least = λ c. cond (contains order c) (t.least (place order c)) 0;
}

-- the round by places
abbrev pub round_at : Round → Round
round_at round = record round { order = places_below (length round.order) }

-- Parts, groups that fit and their lists by places are those of the codes.
pub record PlacesServe : Type 0 where
  -- the codes at the places of a region are the region's, in order, and sums over the region are sums over its places
  pub kept : (p : Problem) (order : List ℕ) (region places : ℕ → Bool) → IsOrder p order
      → IsRegionAt order region places → codes_at order (places_of (length order) places) ≡ filter region order
  pub sums : (p : Problem) (order : List ℕ) (region places : ℕ → Bool) (f : ℕ → ℕ) → IsProblem p → IsOrder p order
      → IsRegionAt order region places
      → sum_by f (listed p region) ≡ sum_by (λ i. f (code_at order i)) (places_of (length order) places)
  pub part : (p : Problem) (order : List ℕ) (region places : ℕ → Bool) (xs : List ℕ) → IsOrder p order
      → IsRegionAt order region places → IsPart (at_places p order) places xs → IsPart p region (codes_at order xs)
  pub parts : (p : Problem) (order : List ℕ) (region places : ℕ → Bool) (parts : List (List ℕ)) → IsOrder p order
      → IsRegionAt order region places → AreParts (at_places p order) places parts
      → AreParts p region (map (codes_at order) parts)
  pub cannot_fill : (p : Problem) (order : List ℕ) (s t : State) (xs : List ℕ) → IsOrder p order → IsStateAt order s t
      → ((i : ℕ) → contains xs i ≡ true → i < length order)
      → CannotFill (at_places p order) t xs ↔ CannotFill p s (codes_at order xs)
  pub fits : (p : Problem) (round : Round) (s t : State) (g : List ℕ) → IsOrder p round.order
      → IsStateAt round.order s t → ((i : ℕ) → contains g i ≡ true → i < length round.order)
      → Fits round.format (at_places p round.order) t g ↔ Fits round.format p s (codes_at round.order g)
  pub groups_at : (p : Problem) (round : Round) (s t : State) (i j : ℕ) (groups : List (List ℕ)) → IsOrder p round.order
      → IsStateAt round.order s t → i < length round.order
      → AreGroupsAt (at_places p round.order) (round_at round) t i j groups
      → AreGroupsAt p round s (code_at round.order i) j (map (codes_at round.order) groups)
  pub groups_of_size : (p : Problem) (round : Round) (s t : State) (i : ℕ) (groups : List (List ℕ))
      → IsOrder p round.order → IsStateAt round.order s t
      → AreGroupsOf (at_places p round.order) (round_at round) t i groups
      → AreGroupsOf p round s i (map (codes_at round.order) groups)

-- A state by places says a state by codes, and keeps saying it: at the beginning, where a group is closed and where a
-- county is raised.
pub record StatesHaveCodes : Type 0 where
  pub there : (order : List ℕ) (t : State) → ((c : ℕ) → count c order ≤ 1)
      → ((i : ℕ) → t.rest i ≡ true → i < length order) → IsStateAt order (in_codes order t) t
  pub empty : (p : Problem) (order : List ℕ) → IsOrder p order
      → in_codes order (empty_state (at_places p order)) ≡ empty_state p
  pub closed : (order : List ℕ) (t : State) (xs : List ℕ) → ((c : ℕ) → count c order ≤ 1)
      → ((i : ℕ) → contains xs i ≡ true → i < length order)
      → in_codes order (close xs t) ≡ close (codes_at order xs) (in_codes order t)
  pub raised : (order : List ℕ) (t : State) (i j : ℕ) → ((c : ℕ) → count c order ≤ 1) → i < length order
      → in_codes order (raise i j t) ≡ raise (code_at order i) j (in_codes order t)
