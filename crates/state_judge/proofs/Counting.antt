-- Steps that are taken for sets of places, each for one of its own, are no more than the sets of codes of a kind.
use Rattle.std.proofs.Common.{◌≡◌, ◌≢◌, ℕ, ◌+◌, ◌≤◌, ◌<◌, true, List, map, length, subst, arith, AllPairs}
use Rattle.std.proofs.lemmas.List.{length-map}
use Rattle.grouping_laws.specs.Sets.{count}
use Rattle.grouping_laws.specs.Problem.{Problem}
use Rattle.grouping_laws.specs.GroupsFrom.{IsOrder}
use Rattle.grouping_laws.specs.PlaceProblem.{at_places}
use Rattle.grouping_laws.specs.Places.{places_below, codes_at}
use Rattle.grouping_laws.proofs.PlaceProblem.{order_once}
use Rattle.grouping_laws.proofs.Elements.{Has, has_all, has_from_contains}
use Rattle.grouping_laws.proofs.PlaceCodes.{Below, has_mapped}
use Rattle.grouping_laws.proofs.PlaceGroups.{codes_distinct}
use Rattle.connected_laws.specs.Listing.{OneStepEach}
use Rattle.connected_laws.proofs.Distinct.{no_more_than, distinct_from_pairs}
use Rattle.certificate_laws.specs.State.{State}
use Rattle.certificate_laws.specs.Groups.{IsSetWithin}
use Rattle.certificate_laws.specs.Places.{IsStateAt, in_codes}
use Rattle.certificate_laws.proofs.PlaceStates.{states_have_codes}
use Rattle.checker_laws.specs.Cost.{IsSetCount}
use Rattle.state_groups.proofs.OpenCounties.{set_within, within_below}

pub steps_counted : (order : List ℕ) → ((c : ℕ) → count c order ≤ 1) → (One Kind : List ℕ → Type 0) (m before after : ℕ) → ((g : List ℕ) → One g → Below (length order) g) → ((g : List ℕ) → One g → Kind (codes_at order g))
    → OneStepEach One before after → IsSetCount order Kind m → after ≤ before + m
steps_counted order once One Kind m before after below kind taken many =
    let fewer : length (map (codes_at order) taken.sets) ≤ length many.sets = no_more_than (map (codes_at order) taken.sets) many.sets (distinct_from_pairs (map (codes_at order) taken.sets) different) inside in
    omega (arith, fewer, length-map taken.sets (codes_at order), taken.steps, many.number)
  where
    one : (g : List ℕ) → Has taken.sets g → One g
    one = has_all One taken.sets taken.each

    different : AllPairs (λ g h. g ≢ h) (map (codes_at order) taken.sets)
    different = codes_distinct order once taken.sets (λ g c. below g (one g (has_from_contains taken.sets g c))) taken.once

    inside : (h : List ℕ) → Has (map (codes_at order) taken.sets) h → Has many.sets h
    inside h i =
        let r : (g : List ℕ) × Has taken.sets g × (codes_at order g ≡ h) = has_mapped (codes_at order) taken.sets h i in
        has_from_contains many.sets h ((many.each h).1 (subst Kind r.2 (kind r.0 (one r.0 r.1))))

-- the same, for the sets within a size at a state by places, which is told by codes
pub steps_of_size : (p : Problem) (order : List ℕ) → IsOrder p order → (t : State) → ((x : ℕ) → t.rest x ≡ true → x < length order) → (size before after m : ℕ)
    → OneStepEach (IsSetWithin (at_places p order) (places_below (length order)) t size) before after → IsSetCount order (IsSetWithin p order (in_codes order t) size) m → after ≤ before + m
steps_of_size p order whole t below size before after m =
    let at : IsStateAt order (in_codes order t) t = states_have_codes.there order t (order_once p order whole) below in
    steps_counted order (order_once p order whole) (IsSetWithin (at_places p order) (places_below (length order)) t size) (IsSetWithin p order (in_codes order t) size) m before after
    (within_below (at_places p order) (length order) t size) (set_within p order whole (in_codes order t) t at size)
