-- What the weights of a count line give: 1 to each county of a group that fits and has the line's size, and 0 to each
-- other one.
use Rattle.std.proofs.Common.{◌≡◌, ℕ, ◌+◌, ◌/◌, ◌≤◌, ◌<◌, Bool, true, false, cond, min, ◌==◌, List, [], ◌∷◌, map, filter, length, refl, sym, ap, ◌∙◌, subst, arith, inl, inr, ◌↔◌, AllPairs, Contains}
use Rattle.std.proofs.lemmas.Bool.{false≢true, eqb-true, eq-eqb, ne_eqb}
use Rattle.grouping_laws.specs.Sets.{indicator, sum_by, contains}
use Rattle.grouping_laws.specs.Problem.{Problem, IsProblem}
use Rattle.grouping_laws.specs.GroupsFrom.{IsOrder}
use Rattle.grouping_laws.proofs.Elements.{Has, all_from_has, has_from_contains, contains_from_has}
use Rattle.grouping_laws.proofs.Parts.{has-filter}
use Rattle.grouping_laws.proofs.Places.{has_member}
use Rattle.grouping_laws.proofs.PlaceCodes.{member_has, mapped_has, has_mapped}
use Rattle.place_sets.specs.PlaceSets.{places_of}
use Rattle.place_sets.proofs.Sums.{total_same, total_ones}
use Rattle.certificate_data.specs.declared.format.Format.{Format}
use Rattle.certificate_laws.specs.Regions.{listed}
use Rattle.certificate_laws.specs.State.{State, open_to}
use Rattle.certificate_data.specs.Tree.{Weight, Allowance, weigh}
use Rattle.certificate_laws.specs.BoundLines.{weight_of, room_at, allowance, IsFair}
use Rattle.certificate_laws.specs.Places.{IsRegionAt}
use Rattle.certificate_laws.specs.Search.{IsInFittingGroup, IsCountLine}
use Rattle.certificate_laws.proofs.Counting.{sum_by-filter, length-filter}
use Rattle.certificate_laws.proofs.Kept.{head_before, tail_pairs, cons_pairs, filter_pairs, filter_has}
use Rattle.certificate_laws.proofs.Places.{places_serve}

-- weights of other counties give nothing
weight_none : (ws : List Weight) (c : ℕ) → ((w : Weight) → Has ws w → w.county ≡ c → ⊥) → weight_of ws c ≡ 0
weight_none [] c none = refl
weight_none (x ∷ ws) c none = go (x.county == c) refl (weight_none ws c (λ w h. none w (inr h)))
  where
    go : (b : Bool) → (x.county == c) ≡ b → weight_of ws c ≡ 0 → cond b x.weight 0 + weight_of ws c ≡ 0
    go true e h = absurd (none x (inl refl) (eqb-true x.county c e))
    go false e h = omega (arith, h)

-- where the counties ascend, a weight is all that its county is given
weight_once : (ws : List Weight) → AllPairs (λ v w. v.county < w.county) ws → (w : Weight) → Has ws w → weight_of ws w.county ≡ w.weight
weight_once [] up w h = absurd h
weight_once (x ∷ ws) up w (inl e) =
    subst (λ (z : Weight). weight_of (x ∷ ws) z.county ≡ z.weight) e
    (omega (arith, ap (λ b. cond b x.weight 0) (eq-eqb x.county x.county refl), weight_none ws x.county (λ v k f. omega (arith, head_before (λ (y z : Weight). y.county < z.county) x ws up v k, f))))
weight_once (x ∷ ws) up w (inr h) =
    let later : x.county < w.county = head_before (λ (y z : Weight). y.county < z.county) x ws up w h in
    omega (arith, ap (λ b. cond b x.weight 0) (ne_eqb x.county w.county (λ e. omega (arith, later, e))), weight_once ws (tail_pairs (λ (y z : Weight). y.county < z.county) x ws up) w h)

total_each_one : (f : ℕ → ℕ) (xs : List ℕ) → ((x : ℕ) → Has xs x → f x ≡ 1) → sum_by f xs ≡ length xs
total_each_one f [] one = refl
total_each_one f (x ∷ xs) one = omega (arith, one x (inl refl), total_each_one f xs (λ y h. one y (inr h)))

-- the weight of a counted county
abbrev pub one_for : ℕ → Weight
one_for c = record { county = c; weight = 1 }

one_pairs : (xs : List ℕ) → AllPairs (λ x y. x < y) xs → AllPairs (λ (v w : Weight). v.county < w.county) (map one_for xs)
one_pairs [] up = λ i j d l m. absurd (omega (arith, m))
one_pairs (x ∷ xs) up =
    cons_pairs (λ (v w : Weight). v.county < w.county) (one_for x) (map one_for xs)
    (λ w h. let r = has_mapped one_for xs w h in subst (λ (z : Weight). x < z.county) r.2 (head_before (λ a b. a < b) x xs up r.0 r.1))
    (one_pairs xs (tail_pairs (λ a b. a < b) x xs up))

module _ (format : Format) (p : Problem) (s : State) (i : ℕ) (counted : ℕ → Bool) (tests : (c : ℕ) → (counted c ≡ true) ↔ IsInFittingGroup format p s i c) where
  -- the counties of the problem that pass the test, each with weight 1, are the weights of the line
  pub made_line : AllPairs (λ x y. x < y) p.counties → IsCountLine format p s i (weigh i (map one_for (filter counted p.counties)))
  made_line up = record { weights = map one_for (filter counted p.counties); is = refl; ascending = one_pairs (filter counted p.counties) (filter_pairs (λ x y. x < y) counted p.counties up); each = λ w. (there w, back w) }
    where
      there : (w : Weight) → Contains (map one_for (filter counted p.counties)) w → (w.weight ≡ 1) × IsInFittingGroup format p s i w.county
      there w k =
          let r = has_mapped one_for (filter counted p.counties) w (has_from_contains (map one_for (filter counted p.counties)) w k) in
          subst (λ (z : Weight). (z.weight ≡ 1) × IsInFittingGroup format p s i z.county) r.2 (refl, (tests r.0).0 (has-filter counted p.counties r.0 r.1).1)

      back : (w : Weight) → (w.weight ≡ 1) × IsInFittingGroup format p s i w.county → Contains (map one_for (filter counted p.counties)) w
      back w h =
          let c = w.county in
          let known : Has p.counties c = member_has p.counties c (h.1.1.lawful.listed c h.1.3) in
          let is : one_for c ≡ w = ap (λ n. record { county = c; weight = n }) (sym h.0) in
          contains_from_has (map one_for (filter counted p.counties)) w (subst (Has (map one_for (filter counted p.counties))) is (mapped_has one_for (filter counted p.counties) c (filter_has counted p.counties c known ((tests c).1 h.1))))

module _ (format : Format) (p : Problem) (s : State) (i : ℕ) (line : Allowance) (is : IsCountLine format p s i line) where
  one_each : (c : ℕ) → IsInFittingGroup format p s i c → weight_of is.weights c ≡ 1
  one_each c h = weight_once is.weights is.ascending (one_for c) (has_from_contains is.weights (one_for c) ((is.each (one_for c)).1 (refl, h)))

  none_else : (c : ℕ) → (IsInFittingGroup format p s i c → ⊥) → weight_of is.weights c ≡ 0
  none_else c never = weight_none is.weights c (λ w h e. never (subst (IsInFittingGroup format p s i) e ((is.each w).0 (contains_from_has is.weights w h)).1))

  -- a count line is fair
  pub count_fair : 1 ≤ i → IsFair format p s i line
  count_fair some = subst (IsFair format p s i) (sym is.is) (
    some,
    all_from_has (λ w. contains p.counties w.county ≡ true) is.weights (λ w h. let k = ((is.each w).0 (contains_from_has is.weights w h)).1 in k.1.lawful.listed w.county k.3),
    λ g fits size. omega (arith, size, total_each_one (weight_of is.weights) g (λ c h. one_each c (g, fits, size, has_member g c h))),
  )

  module _ (order : List ℕ) (region places : ℕ → Bool) (law : IsProblem p) (whole : IsOrder p order) (at : IsRegionAt order region places) (tests : (c : ℕ) → (region c ≡ true) ↔ IsInFittingGroup format p s i c) where
    shared_out : (c : ℕ) → cond (open_to s i c) (weight_of is.weights c) 0 ≡ indicator (region c)
    shared_out c = go (region c) refl (open_to s i c) refl
      where
        go : (a : Bool) → region c ≡ a → (b : Bool) → open_to s i c ≡ b → cond b (weight_of is.weights c) 0 ≡ indicator a
        go true e true k = one_each c ((tests c).0 e)
        go true e false k = let h = (tests c).0 e in absurd (false≢true (sym k ∙ subst (λ n. open_to s n c ≡ true) h.2 (h.1.inside c h.3)))
        go false e true k = none_else c (λ h. false≢true (sym e ∙ (tests c).1 h))
        go false e false k = refl

    -- the open counties weigh as much as there are counted places
    open_weight : sum_by (weight_of is.weights) (listed p (open_to s i)) ≡ length (places_of (length order) places)
    open_weight =
        sum_by-filter (weight_of is.weights) (open_to s i) p.counties
        ∙ (total_same (λ c. cond (open_to s i c) (weight_of is.weights c) 0) (λ c. indicator (region c)) p.counties shared_out
        ∙ (sym (length-filter region p.counties)
        ∙ (sym (total_ones (filter region p.counties))
        ∙ (places_serve.sums p order region places (λ c. 1) law whole at ∙ total_ones (places_of (length order) places)))))

    -- what a count line allows
    pub count_allowed : (used : ℕ) → allowance p s i used line ≡ min (room_at p s i used / i) (length (places_of (length order) places) / i)
    count_allowed used = ap (allowance p s i used) is.is ∙ ap (λ n. min (room_at p s i used / i) (n / i)) open_weight
