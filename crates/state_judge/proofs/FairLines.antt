-- Where a line's weights are fair, and where they aren't.
use Rattle.std.proofs.Common.{◌≡◌, ℕ, ◌≤◌, ◌<◌, Bool, true, false, ◌&&◌, List, [], ◌∷◌, map, filter, length, get_or, refl, sym, ap, ◌∙◌, subst, arith, inl, inr, ◌↔◌, All, Contains}
use Rattle.std.specs.List.{list_all}
use Rattle.std.proofs.lemmas.Bool.{and_parts}
use Rattle.std.proofs.lemmas.List.{length-map, get_or-map}
use Rattle.std.proofs.lemmas.List.Elements.{filter_agree}
use Rattle.grouping_laws.specs.Sets.{indicator, sum_by, contains, Inside}
use Rattle.grouping_laws.specs.Problem.{Problem, IsProblem}
use Rattle.grouping_laws.specs.GroupsFrom.{IsOrder}
use Rattle.grouping_laws.specs.PlaceProblem.{code_at, at_places}
use Rattle.grouping_laws.specs.Places.{codes_at}
use Rattle.grouping_laws.proofs.Alike.{Alike, length_alike, in_order_alike, member_same}
use Rattle.grouping_laws.proofs.Elements.{Has, has_all, all_from_has, has_from_contains, contains_from_has}
use Rattle.grouping_laws.proofs.Places.{has_member}
use Rattle.grouping_laws.proofs.PlaceCodes.{mapped_has, has_mapped}
use Rattle.place_sets.specs.PlaceSets.{places_of}
use Rattle.place_sets.proofs.Sums.{sum_by-map, often_none, often_some, total_alike}
use Rattle.place_sets.proofs.PlaceSets.{places_same}
use Rattle.connected_laws.proofs.PlaceLists.{placed_below}
use Rattle.certificate_data.specs.Round.{Round}
use Rattle.certificate_data.specs.declared.format.Format.TheVariants.{Plain}
use Rattle.certificate_laws.specs.Regions.{listed}
use Rattle.certificate_laws.specs.State.{State, open_to}
use Rattle.certificate_laws.specs.Fitting.{Fits, IsKept}
use Rattle.certificate_laws.specs.Groups.{AreGroupsOf, IsGroupOf}
use Rattle.certificate_laws.specs.Places.{IsStateAt}
use Rattle.certificate_data.specs.Tree.{Weight, weigh}
use Rattle.certificate_laws.specs.BoundLines.{IsFair}
use Rattle.certificate_laws.proofs.Places.{places_serve}
use Rattle.certificate_laws.proofs.Decided.{fits_alike}
use Rattle.certificate_data.specs.declared.weights.Weight.{Weight as WeightHeld}
use Rattle.certificate_data.specs.TreeValue as held
use Rattle.checker_laws.specs.Leaves.{NamesForeign, HasLightGroup}
use Rattle.state_groups.specs.PlacedValues.{codes_of_set, codes_of_sets}
use Rattle.state_groups.proofs.OpenCounties.{open_at}
use Rattle.state_judge.specs.Weights.{weights_of, county_weight}
use Rattle.state_judge.specs.Candidates.{IsCandidateGroup, AreCandidates}

-- sums of terms that are the same for each element
total_each : (f h : ℕ → ℕ) (xs : List ℕ) → ((x : ℕ) → Has xs x → f x ≡ h x) → sum_by f xs ≡ sum_by h xs
total_each f h [] same = refl
total_each f h (x ∷ xs) same = omega (arith, same x (inl refl), total_each f h xs (λ y i. same y (inr i)))

-- the sum of a table of the order's codes over places is the sum over their codes
pub table_sum : (w : ℕ → ℕ) (order table : List ℕ) (t : ℕ → Bool) → table ≡ map w order → sum_by (λ i. get_or table i 0) (places_of (length table) t) ≡ sum_by (λ i. w (code_at order i)) (places_of (length order) t)
table_sum w order table t e =
    subst (λ z. sum_by (λ i. get_or z i 0) (places_of (length z) t) ≡ sum_by (λ i. w (code_at order i)) (places_of (length order) t)) (sym e)
    (ap (λ n. sum_by (λ i. get_or (map w order) i 0) (places_of n t)) (length-map order w)
    ∙ total_each (λ i. get_or (map w order) i 0) (λ i. w (code_at order i)) (places_of (length order) t) (λ i h. get_or-map w order i 0 0 (placed_below (length order) i t (has_member (places_of (length order) t) i h))))

-- the sum over the open places is that over the open counties
pub open_sum : (w : ℕ → ℕ) (p : Problem) (order table : List ℕ) (s t : State) (i : ℕ) (region : ℕ → Bool) → IsProblem p → IsOrder p order → IsStateAt order s t → table ≡ map w order → ((x : ℕ) → region x ≡ open_to t i x)
    → sum_by (λ k. get_or table k 0) (places_of (length table) region) ≡ sum_by w (listed p (open_to s i))
open_sum w p order table s t i region is whole at e same =
    table_sum w order table region e
    ∙ (ap (sum_by (λ k. w (code_at order k))) (places_same (length order) (open_to t i) region same)
    ∙ sym (places_serve.sums p order (open_to s i) (open_to t i) w is whole (open_at order s t i at)))

-- the codes of an order are those of the counties
pub order_counties : (p : Problem) (order : List ℕ) → IsOrder p order → (c : ℕ) → contains order c ≡ contains p.counties c
order_counties p order whole c = go (contains order c) (contains p.counties c) refl refl
  where
    go : (a b : Bool) → contains order c ≡ a → contains p.counties c ≡ b → a ≡ b
    go true true e k = refl
    go true false e k = absurd (omega (arith, whole c, often_some c order e, ap indicator k))
    go false true e k = absurd (omega (arith, whole c, often_none c order e, ap indicator k))
    go false false e k = refl

-- weights of codes of the order are those of counties
all_named : (region : ℕ → Bool) (ws : List WeightHeld) → list_all (λ w. region w.county) ws ≡ true → (w : Weight) → Has (weights_of ws) w → region w.county ≡ true
all_named region [] e w h = absurd h
all_named region (x ∷ ws) e w (inl i) = subst (λ (z : Weight). region z.county ≡ true) i (and_parts (region x.county) (list_all (λ v. region v.county) ws) e).0
all_named region (x ∷ ws) e w (inr h) = all_named region ws (and_parts (region x.county) (list_all (λ v. region v.county) ws) e).1 w h

one_foreign : (region : ℕ → Bool) (ws : List WeightHeld) → list_all (λ w. region w.county) ws ≡ false → (w : Weight) × Has (weights_of ws) w × (region w.county ≡ false)
one_foreign region [] e = absurd (cc)
one_foreign region (x ∷ ws) e = go (region x.county) refl e (one_foreign region ws)
  where
    go : (b : Bool) → region x.county ≡ b → (b && list_all (λ v. region v.county) ws) ≡ false
        → (list_all (λ v. region v.county) ws ≡ false → (w : Weight) × Has (weights_of ws) w × (region w.county ≡ false)) → (w : Weight) × Has (weights_of (x ∷ ws)) w × (region w.county ≡ false)
    go true k f next = let r = next f in (r.0, inr r.1, r.2)
    go false k f next = (held.weight_of x, inl refl, k)

pub named : (p : Problem) (order : List ℕ) (ws : List WeightHeld) → IsOrder p order → list_all (λ w. contains order w.county) ws ≡ true → (w : Weight) → Has (weights_of ws) w → contains p.counties w.county ≡ true
named p order ws whole e w h = sym (order_counties p order whole w.county) ∙ all_named (contains order) ws e w h

pub foreign : (p : Problem) (order : List ℕ) (quota : ℕ) (ws : List WeightHeld) → IsOrder p order → list_all (λ w. contains order w.county) ws ≡ false → NamesForeign p (weigh quota (weights_of ws))
foreign p order quota ws whole e = let r = one_foreign (contains order) ws e in (r.0, contains_from_has (weights_of ws) r.0 r.1, sym (order_counties p order whole r.0.county) ∙ r.2)

-- the same round, in the plain format
abbrev pub plain : Round → Round
plain round = record round { format = Plain }

-- all groups of a size that fit in the plain format are candidates
pub plain_candidates : (p : Problem) (round : Round) (s : State) (i : ℕ) (groups : List (List ℕ)) → AreGroupsOf p (plain round) s i groups → AreCandidates p round s i groups
plain_candidates p round s i groups are = record {
  each = λ g h. let x : IsGroupOf p (plain round) s i g = (are.each g).0 h in record {
    lawful = x.fits.lawful;
    inside = subst (λ n. Inside (open_to s n) g) x.size x.fits.inside;
    in_order = x.in_order;
    size = x.size;
  };
  all = λ g x. (are.each g).1 (record {
    fits = record { lawful = x.fits.lawful; inside = x.fits.inside; kept = tt };
    in_order = x.in_order;
    size = x.size;
  });
  sorted = are.sorted;
}

-- a candidate fits just where its places are kept
set_fits : (p : Problem) (round : Round) (s t : State) (i : ℕ) (xs : List ℕ) → IsOrder p round.order → IsStateAt round.order s t → ((x : ℕ) → contains xs x ≡ true → x < length round.order)
    → IsCandidateGroup p round s i (codes_at round.order xs) → IsKept round.format (at_places p round.order) t xs ↔ Fits round.format p s (codes_at round.order xs)
set_fits p round s t i xs whole at below is = (
  λ kept. (places_serve.fits p round s t xs whole at below).0 (record { lawful = there.lawful; inside = there.inside; kept = kept }),
  λ fits. ((places_serve.fits p round s t xs whole at below).1 fits).kept,
)
  where
    there : Fits Plain (at_places p round.order) t xs
    there = (places_serve.fits p (plain round) s t xs whole at below).1 (record {
      lawful = is.lawful;
      inside = subst (λ n. Inside (open_to s n) (codes_at round.order xs)) (sym is.size) is.inside;
      kept = tt;
    })

module _ (C : Type 0) (test : C → ℕ → Bool) (p : Problem) (round : Round) (s t : State) (i quota : ℕ) (w : ℕ → ℕ) (sets : List C) where
  -- the places of the set are kept
  abbrev Kept : List ℕ → C → Type 0
  Kept z set = IsKept round.format (at_places p z) t (places_of (length z) (test set))

  kept_there : (set : C) → IsOrder p round.order → IsStateAt round.order s t → IsCandidateGroup p round s i (codes_of_set round.order test set) → Kept round.order set ↔ Fits round.format p s (codes_of_set round.order test set)
  kept_there set whole at = set_fits p round s t i (places_of (length round.order) (test set)) whole at (λ x. placed_below (length round.order) x (test set))

  heavy_there : IsOrder p round.order → IsStateAt round.order s t → AreCandidates p round s i (codes_of_sets round.order test sets) → All (λ g. Kept round.order g → quota ≤ sum_by w (codes_of_set round.order test g)) sets
      → (g : List ℕ) → Fits round.format p s g → length g ≡ i → quota ≤ sum_by w g
  heavy_there whole at are heavy g fits e =
      let k = filter (contains g) round.order in
      let same : Alike g k = in_order_alike round.order p.counties g whole fits.lawful.once fits.lawful.listed in
      let fit : Fits round.format p s k = fits_alike round.format p s g k same fits in
      let found = are.all k (record {
        fits = fit;
        in_order = filter_agree (contains k) (contains g) (λ x. sym (member_same g k same x)) round.order;
        size = omega (arith, e, length_alike g k same);
      }) in
      let r : (x : C) × Has sets x × (codes_of_set round.order test x ≡ k) = has_mapped (codes_of_set round.order test) sets k (has_from_contains (codes_of_sets round.order test sets) k found) in
      let is = subst (IsCandidateGroup p round s i) (sym r.2) (are.each k found) in
      let kept = (kept_there r.0 whole at is).1 (subst (Fits round.format p s) (sym r.2) fit) in
      let enough = has_all (λ x. Kept round.order x → quota ≤ sum_by w (codes_of_set round.order test x)) sets heavy r.0 r.1 kept in
      omega (arith, total_alike w g k same, subst (λ z. quota ≤ sum_by w z) r.2 enough)

  -- where each candidate that is kept weighs enough, each group that fits does
  pub heavy_codes : (order : List ℕ) → order ≡ round.order → IsOrder p order → IsStateAt order s t → AreCandidates p round s i (codes_of_sets order test sets) → All (λ g. Kept order g → quota ≤ sum_by w (codes_of_set order test g)) sets
      → (g : List ℕ) → Fits round.format p s g → length g ≡ i → quota ≤ sum_by w g
  heavy_codes order e = subst (λ z. IsOrder p z → IsStateAt z s t → AreCandidates p round s i (codes_of_sets z test sets) → All (λ g. Kept z g → quota ≤ sum_by w (codes_of_set z test g)) sets → (g : List ℕ) → Fits round.format p s g → length g ≡ i → quota ≤ sum_by w g) (sym e) heavy_there

  light_there : IsOrder p round.order → IsStateAt round.order s t → AreCandidates p round s i (codes_of_sets round.order test sets) → (g : C) × Contains sets g × Kept round.order g × (sum_by w (codes_of_set round.order test g) < quota)
      → (k : List ℕ) × Fits round.format p s k × (length k ≡ i) × (sum_by w k < quota)
  light_there whole at are found =
      let k = codes_of_set round.order test found.0 in
      let is = are.each k (contains_from_has (codes_of_sets round.order test sets) k (mapped_has (codes_of_set round.order test) sets found.0 (has_from_contains sets found.0 found.1))) in
      (k, (kept_there found.0 whole at is).0 found.2, is.size, found.3)

  -- a candidate that is kept and weighs too little is a group that fits
  pub light_codes : (order : List ℕ) → order ≡ round.order → IsOrder p order → IsStateAt order s t → AreCandidates p round s i (codes_of_sets order test sets) → (g : C) × Contains sets g × Kept order g × (sum_by w (codes_of_set order test g) < quota)
      → (k : List ℕ) × Fits round.format p s k × (length k ≡ i) × (sum_by w k < quota)
  light_codes order e = subst (λ z. IsOrder p z → IsStateAt z s t → AreCandidates p round s i (codes_of_sets z test sets) → (g : C) × Contains sets g × Kept z g × (sum_by w (codes_of_set z test g) < quota) → (k : List ℕ) × Fits round.format p s k × (length k ≡ i) × (sum_by w k < quota)) (sym e) light_there

-- what a set weighs by the table, its codes weigh
pub set_weight : {C : Type 0} (test : C → ℕ → Bool) (order table : List ℕ) (w : ℕ → ℕ) → table ≡ map w order → (set : C) → sum_by (λ i. get_or table i 0) (places_of (length table) (test set)) ≡ sum_by w (codes_of_set order test set)
set_weight test order table w e set = table_sum w order table (test set) e ∙ sym (sum_by-map w (code_at order) (places_of (length order) (test set)))

-- the candidates decide
pub fair : {C : Type 0} (test : C → ℕ → Bool) (p : Problem) (round : Round) (s t : State) (i quota : ℕ) (ws : List WeightHeld) (sets : List C) (order table : List ℕ) → order ≡ round.order → IsOrder p order → IsStateAt order s t
    → AreCandidates p round s i (codes_of_sets order test sets) → 1 ≤ quota → list_all (λ w. contains order w.county) ws ≡ true → table ≡ map (county_weight ws) order
    → All (λ g. IsKept round.format (at_places p order) t (places_of (length order) (test g)) → quota ≤ sum_by (λ k. get_or table k 0) (places_of (length table) (test g))) sets → IsFair round.format p s i (weigh quota (weights_of ws))
fair {C = C} test p round s t i quota ws sets order table same whole at are some known e heavy = (
  some,
  all_from_has (λ w. contains p.counties w.county ≡ true) (weights_of ws) (named p order ws whole known),
  heavy_codes C test p round s t i quota (county_weight ws) sets order same whole at are (all_from_has (λ g. IsKept round.format (at_places p order) t (places_of (length order) (test g)) → quota ≤ sum_by (county_weight ws) (codes_of_set order test g)) sets (λ g h kept.
      let enough = has_all (λ x. IsKept round.format (at_places p order) t (places_of (length order) (test x)) → quota ≤ sum_by (λ k. get_or table k 0) (places_of (length table) (test x))) sets heavy g h kept in
      omega (arith, enough, set_weight test order table (county_weight ws) e g))),
)

pub light : {C : Type 0} (test : C → ℕ → Bool) (p : Problem) (round : Round) (s t : State) (i quota : ℕ) (ws : List WeightHeld) (sets : List C) (order table : List ℕ) → order ≡ round.order → IsOrder p order → IsStateAt order s t
    → AreCandidates p round s i (codes_of_sets order test sets) → list_all (λ w. contains order w.county) ws ≡ true → table ≡ map (county_weight ws) order
    → (g : C) × Contains sets g × IsKept round.format (at_places p order) t (places_of (length order) (test g)) × (sum_by (λ k. get_or table k 0) (places_of (length table) (test g)) < quota)
    → HasLightGroup round.format p s i (weigh quota (weights_of ws))
light {C = C} test p round s t i quota ws sets order table same whole at are known e found = (
  (λ w h. named p order ws whole known w (has_from_contains (weights_of ws) w h)),
  light_codes C test p round s t i quota (county_weight ws) sets order same whole at are
      (found.0, found.1, found.2, omega (arith, found.3, set_weight test order table (county_weight ws) e found.0)),
)
