-- The groups of a branch by places and by codes, and the steps that were taken for them.
use Rattle.std.proofs.Common.{◌≡◌, ℕ, ◌+◌, ◌≤◌, ◌<◌, Bool, true, nat_le, ◌&&◌, List, [], ◌∷◌, map, length, refl, sym, ap, ◌∙◌, subst, arith, inl, inr, All, Result, Err}
use Rattle.std.proofs.lemmas.Bool.{and_parts}
use Rattle.std.proofs.lemmas.List.{length-map}
use Rattle.grouping_laws.specs.Sets.{count, Inside}
use Rattle.grouping_laws.specs.Problem.{Problem}
use Rattle.grouping_laws.specs.GroupsFrom.{IsOrder, place}
use Rattle.grouping_laws.specs.Places.{places_below, codes_at}
use Rattle.grouping_laws.proofs.Elements.{Has, has_from_contains, contains_from_has, has_all, all_from_has}
use Rattle.grouping_laws.proofs.PlaceCodes.{Below, mapped_has, has_mapped, member_code, code_place, codes_injective}
use Rattle.grouping_laws.proofs.PlaceProblem.{order_once, below_ordered, connected_codes, ordered_codes}
use Rattle.place_sets.specs.PlaceSets.{places_of}
use Rattle.county_problem.specs.OrderedValue.{code_at, at_places}
use Rattle.connected_laws.specs.Listing.{lists_of, AreBelow, OneStepEach}
use Rattle.connected_laws.proofs.Distinct.{Distinct, no_more_than, distinct_from_pairs}
use Rattle.connected_laws.proofs.Keys.{map_twice}
use Rattle.connected_laws.proofs.PlaceLists.{placed, placed_test}
use Rattle.state_groups.specs.declared.state.State.{State as StateHeld}
use Rattle.certificate_data.specs.Round.{Round}
use Rattle.certificate_laws.specs.State.{State, open_to}
use Rattle.state_groups.specs.StateValue.{state_of}
use Rattle.certificate_laws.specs.Groups.{AreGroupsAt, IsGroupAt, IsSetAt}
use Rattle.certificate_laws.specs.Places.{IsStateAt, in_codes, round_at}
use Rattle.certificate_laws.proofs.Places.{places_serve}
use Rattle.certificate_laws.proofs.PlaceStates.{states_have_codes}
use Rattle.checker_laws.specs.Cost.{IsSetCount}
use Rattle.connected_sets.specs.declared.stop.Stop.{Stop}
use Rattle.connected_sets.specs.declared.stop.Stop.TheVariants as search
use Rattle.state_judge.specs.declared.fault.LineStop.{LineStop}
use Rattle.state_judge.specs.declared.fault.LineStop.TheVariants as line
use Rattle.state_judge.specs.LineStops.{line_stop}
use Rattle.state_groups.specs.PlacedValues.{codes_of_sets, IsClosable}

-- images of different elements are different
distinct_mapped : {X Y : Type 0} (f : X → Y) (xs : List X) → Distinct xs → ((x y : X) → Has xs x → Has xs y → f x ≡ f y → x ≡ y) → Distinct (map f xs)
distinct_mapped f [] d one = tt
distinct_mapped {X = X} {Y = Y} f (x ∷ xs) d one = (new, distinct_mapped f xs d.1 (λ y z h k e. one y z (inr h) (inr k) e))
  where
    new : Has (map f xs) (f x) → ⊥
    new h =
        let r : (y : X) × Has xs y × (f y ≡ f x) = has_mapped f xs (f x) h in
        d.0 (subst (λ z. Has xs z) (one r.0 x (inr r.1) (inl refl) r.2) r.1)

module _ (p : Problem) (order : List ℕ) (whole : IsOrder p order) (t : State) (below : (x : ℕ) → t.rest x ≡ true → x < length order) (i j : ℕ) (l : i < length order) where
  abbrev s : State
  s = in_codes order t

  abbrev q : Problem
  q = at_places p order

  at : IsStateAt order s t
  at = states_have_codes.there order t (order_once p order whole) below

  -- a set that is looked through by places is one by codes
  set_codes : (g : List ℕ) → IsSetAt q (places_below (length order)) t i j g → IsSetAt p order s (code_at order i) j (codes_at order g)
  set_codes g h = record {
    connected = connected_codes p order once g low h.connected;
    in_order = ordered_codes p order once g h.in_order;
    has = member_code order once g low i l ∙ h.has;
    small = omega (arith, length-map g (code_at order), h.small);
    inside = inside;
  }
    where
      once : (c : ℕ) → count c order ≤ 1
      once = order_once p order whole

      low : Below (length order) g
      low = below_ordered (length order) g h.in_order

      inside : Inside (open_to s j) (codes_at order g)
      inside c m =
          let r = code_place order once g low c m in
          ap (open_to s j) (sym r.2)
          ∙ (ap (λ b. b && nat_le (s.least (code_at order (place order c))) j) (sym (at.rest.same (place order c) r.0))
          ∙ (ap (λ k. t.rest (place order c) && nat_le k j) (sym (at.least (place order c) r.0)) ∙ h.inside (place order c) r.1))

  -- so no more steps are taken than there are sets by codes
  few_steps : (before after m : ℕ) → OneStepEach (IsSetAt q (places_below (length order)) t i j) before after → IsSetCount order (IsSetAt p order s (code_at order i) j) m → after ≤ before + m
  few_steps before after m steps many =
      let each = has_all (IsSetAt q (places_below (length order)) t i j) steps.sets steps.each in
      let once = order_once p order whole in
      let low = λ (g : List ℕ) (h : Has steps.sets g). below_ordered (length order) g (each g h).in_order in
      let distinct = distinct_mapped (codes_at order) steps.sets (distinct_from_pairs steps.sets steps.once) (λ g k h w e. codes_injective order once g k (low g h) (low k w) e) in
      let fewer = no_more_than (map (codes_at order) steps.sets) many.sets distinct (λ g h.
      let r : (k : List ℕ) × Has steps.sets k × (codes_at order k ≡ g) = has_mapped (codes_at order) steps.sets g h in
      has_from_contains many.sets g ((many.each g).1 (subst (IsSetAt p order s (code_at order i) j) r.2 (set_codes r.0 (each r.0 r.1))))) in
      omega (arith, fewer, length-map steps.sets (codes_at order), many.number, steps.steps)

-- the same, where the county and the limit are said in two ways
pub steps_within : (p : Problem) (order : List ℕ) → IsOrder p order → (t : State) → ((x : ℕ) → t.rest x ≡ true → x < length order) → (i j : ℕ) → i < length order → (c k : ℕ) → code_at order i ≡ c → j ≡ k → (before after m : ℕ)
    → OneStepEach (IsSetAt (at_places p order) (places_below (length order)) t i j) before after → IsSetCount order (IsSetAt p order (in_codes order t) c k) m → after ≤ before + m
steps_within p order whole t below i j l c k is same before after m steps many =
    few_steps p order whole t below i j l before after m steps
    (subst (λ z. IsSetCount order (IsSetAt p order (in_codes order t) z j) m) (sym is) (subst (λ z. IsSetCount order (IsSetAt p order (in_codes order t) c z) m) (sym same) many))

-- the groups of a list by places, by codes
pub groups_codes : (C : Type 0) (test : C → ℕ → Bool) (p : Problem) (round : Round) (order : List ℕ) (t : State) (i j : ℕ) (sets : List C) → order ≡ round.order → IsOrder p order → ((x : ℕ) → t.rest x ≡ true → x < length order) → i < length order
    → ((r : Round) → r.order ≡ places_below (length order) → r.format ≡ round.format → AreGroupsAt (at_places p order) r t i j (lists_of (length order) test sets)) → (c k : ℕ) → code_at order i ≡ c → j ≡ k
    → AreGroupsAt p round (in_codes order t) c k (codes_of_sets order test sets)
groups_codes C test p round order t i j sets same whole below l are c k is limit =
    subst (λ z. AreGroupsAt p round (in_codes order t) z k (codes_of_sets order test sets)) is
    (subst (λ z. AreGroupsAt p round (in_codes order t) (code_at order i) z (codes_of_sets order test sets)) limit
    (subst
    (λ (o : List ℕ). IsOrder p o → ((x : ℕ) → t.rest x ≡ true → x < length o) → i < length o
    → ((r : Round) → r.order ≡ places_below (length o) → r.format ≡ round.format → AreGroupsAt (at_places p o) r t i j (lists_of (length o) test sets)) → AreGroupsAt p round (in_codes o t) (code_at o i) j (codes_of_sets o test sets))
    (sym same) base whole below l are))
  where
    base : IsOrder p round.order → ((x : ℕ) → t.rest x ≡ true → x < length round.order) → i < length round.order
        → ((r : Round) → r.order ≡ places_below (length round.order) → r.format ≡ round.format → AreGroupsAt (at_places p round.order) r t i j (lists_of (length round.order) test sets))
        → AreGroupsAt p round (in_codes round.order t) (code_at round.order i) j (codes_of_sets round.order test sets)
    base whole below l are =
        subst (AreGroupsAt p round (in_codes round.order t) (code_at round.order i) j) (map_twice (codes_at round.order) (λ g. places_of (length round.order) (test g)) sets)
        (places_serve.groups_at p round (in_codes round.order t) t i j (lists_of (length round.order) test sets) whole (states_have_codes.there round.order t (order_once p round.order whole) below) l (are (round_at round) refl refl))

-- each of them may be closed
pub groups_closable : (C : Type 0) (test : C → ℕ → Bool) (p : Problem) (n : ℕ) (round : Round) (s : StateHeld C) (i j : ℕ) (sets : List C) → AreGroupsAt p round (state_of test s) i j (lists_of n test sets) → AreBelow n test sets → All (IsClosable test s) sets
groups_closable C test p n round s i j sets are below = all_from_has (IsClosable test s) sets one
  where
    one : (g : C) → Has sets g → IsClosable test s g
    one g h =
        let low = has_all (λ z. (x : ℕ) → test z x ≡ true → x < n) sets below g h in
        let group : IsGroupAt p round (state_of test s) i j (places_of n (test g)) = (are.each (places_of n (test g))).0 (contains_from_has (lists_of n test sets) (places_of n (test g)) (mapped_has (λ z. places_of n (test z)) sets g h)) in
        let size = length (places_of n (test g)) in
        record {
          some = (i, placed_test n i (test g) group.has);
          inside = λ x e. (and_parts (test s.rest x) (nat_le ((state_of test s).least x) size) (group.fits.inside x (placed n x (test g) (low x e) e))).0;
        }

-- where a search's stop is said as the steps' end, it is that
pub only_steps : {X : Type 0} (r : Result X LineStop) (stop : Stop) (y : LineStop) → r ≡ Err y → y ≡ line_stop stop → r ≡ Err line.StepLimit → stop ≡ search.StepLimit
only_steps r search.StepLimit y e is k = refl
only_steps r search.Memory y e is k = absurd (other r y e is k)
  where
    other : {X : Type 0} (r : Result X LineStop) (y : LineStop) → r ≡ Err y → y ≡ line.Memory → r ≡ Err line.StepLimit → ⊥
    other r y e is k = cc
