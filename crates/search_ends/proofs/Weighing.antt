-- Lines of weights by a table of places: they are fair, and allow what the open places share.
use Rattle.std.proofs.Common.{◌≡◌, ℕ, ◌/◌, min, ◌≤◌, ◌<◌, Bool, true, List, map, filter, length, get_or, sym, ap, subst, arith, All}
use Rattle.std.proofs.lemmas.List.Elements.{filter_agree}
use Rattle.grouping_laws.specs.Sets.{sum_by, contains}
use Rattle.grouping_laws.specs.Problem.{Problem, IsProblem}
use Rattle.grouping_laws.specs.GroupsFrom.{IsOrder}
use Rattle.grouping_laws.proofs.Alike.{Alike, length_alike, in_order_alike, member_same}
use Rattle.grouping_laws.proofs.Elements.{Has, has_all, all_from_has, has_from_contains}
use Rattle.grouping_laws.proofs.PlaceCodes.{has_mapped}
use Rattle.grouping_laws.proofs.PlaceProblem.{order_once}
use Rattle.place_sets.specs.PlaceSets.{places_of}
use Rattle.place_sets.proofs.Sums.{total_alike}
use Rattle.certificate_data.specs.Round.{Round}
use Rattle.certificate_laws.specs.Regions.{listed}
use Rattle.certificate_laws.specs.State.{State, open_to}
use Rattle.certificate_laws.specs.Fitting.{Fits}
use Rattle.certificate_laws.specs.Places.{IsStateAt}
use Rattle.certificate_data.specs.Tree.{Weight}
use Rattle.certificate_laws.specs.BoundLines.{room_at}
use Rattle.certificate_laws.proofs.Decided.{fits_alike}
use Rattle.certificate_laws.proofs.PlaceStates.{states_have_codes}
use Rattle.certificate_data.specs.declared.weights.Weight.{Weight as WeightHeld}
use Rattle.certificate_data.specs.declared.allowance.Allowance.TheVariants.{Weigh}
use Rattle.certificate_data.specs.TreeValue as values
use Rattle.state_groups.specs.declared.state.State.{State as StateHeld}
use Rattle.state_groups.specs.StateValue.{state_of}
use Rattle.state_groups.specs.PlacedValues.{state_at, codes_of_set, codes_of_sets, IsPlaced}
use Rattle.state_judge.specs.Weights.{weights_of, county_weight}
use Rattle.state_judge.proofs.FairLines.{set_weight, open_sum}
use Rattle.search_groups.specs.KnownGroups.{IsKnown}
use Rattle.search_ends.specs.MissingGroups.{AllowsFewer}
use Rattle.search_ends.specs.PlacedWeights.{placed_weight, weights_above, AreTableWeights}
use Rattle.search_ends.proofs.PlacedWeights.{above_known, table_weights}
use Rattle.certificate_text.proofs.ShortLines.{weights_fit}

-- where each group that is known weighs so much, each one that fits does
known_heavy : (p : Problem) (round : Round) (s : State) (i quota : ℕ) (w : ℕ → ℕ) (groups : List (List ℕ)) → IsOrder p round.order → IsKnown p round s i groups → All (λ g. quota ≤ sum_by w g) groups
    → (g : List ℕ) → Fits round.format p s g → length g ≡ i → quota ≤ sum_by w g
known_heavy p round s i quota w groups whole known heavy g fits e =
    let k = filter (contains g) round.order in
    let same : Alike g k = in_order_alike round.order p.counties g whole fits.lawful.once fits.lawful.listed in
    let there : Has groups k = has_from_contains groups k (known.all k (record {
      fits = fits_alike round.format p s g k same fits;
      in_order = filter_agree (contains k) (contains g) (λ x. sym (member_same g k same x)) round.order;
      size = omega (arith, e, length_alike g k same);
    })) in
    omega (arith, total_alike w g k same, has_all (λ h. quota ≤ sum_by w h) groups heavy k there)

-- the weights of counties of the problem
known_counties : (p : Problem) (value : ℕ → ℕ) (ws : List WeightHeld) → ws ≡ weights_above value p.counties → All (λ (w : Weight). contains p.counties w.county ≡ true) (weights_of ws)
known_counties p value ws e = all_from_has (λ (w : Weight). contains p.counties w.county ≡ true) (weights_of ws) (λ w h.
    let r = has_mapped values.weight_of ws w h in
    subst (λ (z : Weight). contains p.counties z.county ≡ true) r.2 (above_known value p.counties r.0 (subst (λ (z : List WeightHeld). Has z r.0) e r.1)))

-- where each set weighs so much by the table, its codes do
all_heavy : {C : Type 0} (test : C → ℕ → Bool) (order table : List ℕ) (w : ℕ → ℕ) (quota : ℕ) (sets : List C) → table ≡ map w order → All (λ g. quota ≤ sum_by (λ i. get_or table i 0) (places_of (length table) (test g))) sets
    → All (λ g. quota ≤ sum_by w g) (codes_of_sets order test sets)
all_heavy {C = C} test order table w quota sets e all = all_from_has (λ g. quota ≤ sum_by w g) (codes_of_sets order test sets) (λ g h.
    let r : (x : C) × Has sets x × (codes_of_set order test x ≡ g) = has_mapped (codes_of_set order test) sets g h in
    let heavy = has_all (λ x. quota ≤ sum_by (λ i. get_or table i 0) (places_of (length table) (test x))) sets all r.0 r.1 in
    subst (λ z. quota ≤ sum_by w z) r.2 (omega (arith, heavy, set_weight test order table w e r.0)))

less_shared : (a b c n k : ℕ) → b ≡ c → b / n < k → min a (c / n) < k
less_shared a b c n k e l = least (ap (λ z. z / n) e)
  where
    least : b / n ≡ c / n → min a (c / n) < k
    least f = omega (arith, f, l)

module _ (C : Type 0) (test : C → ℕ → Bool) (p : Problem) (law : IsProblem p) (order : List ℕ) (whole : IsOrder p order) where
  -- a line of the table's weights, with a quota that no group weighs less than, where the open places share them
  -- between fewer than `k` groups
  pub weighed_fewer : (round : Round) (held : StateHeld C) → IsPlaced (length order) test held → (i k quota : ℕ) (table : List ℕ) (ws : List WeightHeld) (sets : List C) (region : ℕ → Bool) → order ≡ round.order → length table ≡ length order → AreTableWeights order p.counties table ws
      → IsKnown p round (state_at order test held) i (codes_of_sets order test sets) → All (λ g. quota ≤ sum_by (λ x. get_or table x 0) (places_of (length table) (test g))) sets → 1 ≤ quota → quota ≤ 256000000
      → ((x : ℕ) → region x ≡ open_to (state_of test held) i x) → sum_by (λ x. get_or table x 0) (places_of (length table) region) / quota < k → AllowsFewer round.format p (state_at order test held) i k (Weigh quota ws)
  weighed_fewer round held placed i k quota table ws sets region same number are known heavy from to covers less = record {
    fair = (from, known_counties p (placed_weight order table) ws are.are, known_heavy p round s i quota w (codes_of_sets order test sets) (subst (IsOrder p) same whole) known (all_heavy test order table w quota sets table_is heavy));
    fewer = less_shared (room_at p s i 0 / i) (sum_by (λ x. get_or table x 0) (places_of (length table) region)) (sum_by w (listed p (open_to s i))) quota k (open_sum w p order table s t i region law whole at table_is covers) less;
    spelled = weights_fit quota ws from to are.few are.each are.ascending;
  }
    where
      t : State
      t = state_of test held

      s : State
      s = state_at order test held

      at : IsStateAt order s t
      at = states_have_codes.there order t (order_once p order whole) placed.rest

      w : ℕ → ℕ
      w = county_weight ws

      table_is : table ≡ map w order
      table_is = subst (λ (z : List WeightHeld). table ≡ map (county_weight z) order) (sym are.are) (table_weights p law order whole table number)
