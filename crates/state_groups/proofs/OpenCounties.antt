-- The counties that are open to a group, by places and by codes, and the groups and sets among them.
use Rattle.std.proofs.Common.{◌≡◌, ℕ, ◌-◌, ◌≤◌, ◌&&◌, nat_le, refl, List, map, length, sym, ap, ◌∙◌, subst, arith}
use Rattle.std.proofs.lemmas.List.{length-map}
use Rattle.county_codes.specs.Limits.{most_counties}
use Rattle.grouping_laws.specs.Sets.{count}
use Rattle.grouping_laws.specs.Problem.{Problem, IsProblem}
use Rattle.grouping_laws.specs.GroupsFrom.{IsOrder, place}
use Rattle.grouping_laws.specs.Places.{places_below, codes_at}
use Rattle.place_sets.specs.PlaceSets.{places_of}
use Rattle.place_sets.proofs.Sums.{total_ones}
use Rattle.grouping_laws.specs.PlaceProblem.{code_at, at_places}
use Rattle.grouping_laws.proofs.PlaceCodes.{Below, code_place}
use Rattle.grouping_laws.proofs.PlaceProblem.{below_ordered, order_once, connected_codes, ordered_codes}
use Rattle.connected_sets.proofs.Filling.{few}
use Rattle.certificate_data.specs.Round.{Round}
use Rattle.certificate_laws.specs.Regions.{listed}
use Rattle.certificate_laws.specs.State.{State, open_to}
use Rattle.certificate_laws.specs.Groups.{AreGroupsOf, IsSetWithin}
use Rattle.certificate_laws.specs.BoundLines.{room_at}
use Rattle.certificate_laws.specs.Places.{IsRegionAt, IsStateAt, round_at}
use Rattle.certificate_laws.proofs.Completion.{open_rest, open_least, is_open}
use Rattle.certificate_laws.proofs.Places.{places_serve}

pub open_at : (order : List ℕ) (s t : State) (i : ℕ) → IsStateAt order s t → IsRegionAt order (open_to s i) (open_to t i)
open_at order s t i at = record {
  same = λ k l. ap (λ b. b && nat_le (t.least k) i) (at.rest.same k l) ∙ ap (λ z. s.rest (code_at order k) && nat_le z i) (at.least k l);
  below = λ k e. at.rest.below k (open_rest t i k e);
  known = λ c e. at.rest.known c (open_rest s i c e);
}

-- as many places are open as counties
pub open_many : (p : Problem) (order : List ℕ) (s t : State) (i : ℕ) → IsProblem p → IsOrder p order → IsStateAt order s t → length (listed p (open_to s i)) ≡ length (places_of (length order) (open_to t i))
open_many p order s t i is whole at =
    omega (arith, places_serve.sums p order (open_to s i) (open_to t i) (λ c. 1) is whole (open_at order s t i at), total_ones (listed p (open_to s i)), total_ones (places_of (length order) (open_to t i)))

-- so the room is one, and within what is left of the places
pub room_same : (p : Problem) (order : List ℕ) (s t : State) (i used : ℕ) → IsProblem p → IsOrder p order → IsStateAt order s t → room_at (at_places p order) t i used ≡ room_at p s i used
room_same p order s t i used is whole at = omega (arith, open_many p order s t i is whole at)

pub room_few : (p : Problem) (order : List ℕ) (s t : State) (i used : ℕ) → IsProblem p → IsOrder p order → IsStateAt order s t → length order ≤ most_counties → room_at p s i used ≤ most_counties - used
room_few p order s t i used is whole at small = omega (arith, open_many p order s t i is whole at, few (length order) (open_to t i), small)

-- a set of places within the open ones is a set of codes
pub set_within : (p : Problem) (order : List ℕ) → IsOrder p order → (s t : State) → IsStateAt order s t → (i : ℕ) (g : List ℕ) → IsSetWithin (at_places p order) (places_below (length order)) t i g → IsSetWithin p order s i (codes_at order g)
set_within p order whole s t at i g x = record {
  connected = connected_codes p order once g below x.connected;
  in_order = ordered_codes p order once g x.in_order;
  small = omega (arith, x.small, length-map g (code_at order));
  inside = λ c e.
      let r = code_place order once g below c e in
      let o = x.inside (place order c) r.1 in
      is_open s i c
      (ap s.rest (sym r.2) ∙ (sym (at.rest.same (place order c) r.0) ∙ open_rest t i (place order c) o))
      (omega (arith, open_least t i (place order c) o, at.least (place order c) r.0, ap s.least r.2));
}
  where
    once : (c : ℕ) → count c order ≤ 1
    once = order_once p order whole

    below : Below (length order) g
    below = below_ordered (length order) g x.in_order

pub within_below : (p : Problem) (n : ℕ) (s : State) (i : ℕ) (g : List ℕ) → IsSetWithin p (places_below n) s i g → Below n g
within_below p n s i g x = below_ordered n g x.in_order

-- lists of the groups by places are lists of the groups by codes
pub groups_by_codes : (p : Problem) (order : List ℕ) (round : Round) (s t : State) (i : ℕ) (groups : List (List ℕ)) → order ≡ round.order → IsOrder p order → IsStateAt order s t
    → ((r : Round) → r.order ≡ places_below (length order) → r.format ≡ round.format → AreGroupsOf (at_places p order) r t i groups) → AreGroupsOf p round s i (map (codes_at order) groups)
groups_by_codes p order round s t i groups e =
    subst (λ z. IsOrder p z → IsStateAt z s t → ((r : Round) → r.order ≡ places_below (length z) → r.format ≡ round.format → AreGroupsOf (at_places p z) r t i groups) → AreGroupsOf p round s i (map (codes_at z) groups)) (sym e)
    (λ whole at are. places_serve.groups_of_size p round s t i groups whole at (are (round_at round) refl refl))
