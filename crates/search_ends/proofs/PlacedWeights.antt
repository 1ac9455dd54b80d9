-- Weights of counties by a table of places.
use Rattle.std.proofs.Common.{◌≡◌, ℕ, ◌+◌, ◌≤◌, ◌<◌, Bool, true, false, cond, ◌==◌, ◌||◌, ◌&&◌, List, [], ◌∷◌, map, filter, length, get_or, refl, sym, ap, ◌∙◌, subst, arith, inl, AllPairs}
use Rattle.std.specs.Prelude.{nat_lt}
use Rattle.std.proofs.lemmas.Bool.{false≢true, eqb-true, ltb-false, lt-ltb}
use Rattle.std.proofs.lemmas.List.{ext_get_or, get_or-map, length-map}
use Rattle.std.proofs.lemmas.List.Sums.{length-filter, count_by-le-length}
use Rattle.grouping_laws.specs.Sets.{indicator, count, contains}
use Rattle.grouping_laws.specs.Problem.{Problem, IsProblem}
use Rattle.grouping_laws.specs.GroupsFrom.{IsOrder, place}
use Rattle.grouping_laws.specs.PlaceProblem.{code_at}
use Rattle.grouping_laws.proofs.Elements.{Has, has_get}
use Rattle.grouping_laws.proofs.Alike.{Alike, length_alike}
use Rattle.grouping_laws.proofs.Parts.{has-filter}
use Rattle.grouping_laws.proofs.Places.{has_member, place_at}
use Rattle.grouping_laws.proofs.PlaceCodes.{has_mapped}
use Rattle.grouping_laws.proofs.PlaceProblem.{order_once}
use Rattle.place_sets.proofs.Sums.{often_none, often_some}
use Rattle.certificate_laws.proofs.Kept.{head_before, tail_pairs, filter_pairs}
use Rattle.certificate_lines.specs.Lines.{ascend}
use Rattle.certificate_data.specs.declared.weights.Weight.{Weight}
use Rattle.state_judge.specs.Weights.{county_weight}
use Rattle.search_ends.specs.PlacedWeights.{placed_weight, weight_for, weights_above}

-- the weight of the county at a place
pub placed_at : (order table : List ℕ) → ((c : ℕ) → count c order ≤ 1) → (i c : ℕ) → i < length order → code_at order i ≡ c → placed_weight order table c ≡ get_or table i 0
placed_at order table once i c l e =
    subst (λ z. cond (contains order z) (get_or table (place order z) 0) 0 ≡ get_or table i 0) e
    (ap (λ b. cond b (get_or table (place order (code_at order i)) 0) 0) (has_member order (code_at order i) (has_get order i 0 l)) ∙ ap (λ k. get_or table k 0) (place_at order once i l))

-- a county at no place has none
pub placed_nowhere : (order table : List ℕ) (c : ℕ) → contains order c ≡ false → placed_weight order table c ≡ 0
placed_nowhere order table c e = ap (λ b. cond b (get_or table (place order c) 0) 0) e

module _ (value : ℕ → ℕ) where
  one_more : (x : ℕ) (xs : List ℕ) (c : ℕ) → county_weight (weights_above value (x ∷ xs)) c ≡ cond (x == c) (value x) 0 + county_weight (weights_above value xs) c
  one_more x xs c = go (nat_lt 0 (value x)) refl
    where
      kept : List ℕ
      kept = filter (λ y. nat_lt 0 (value y)) xs

      nothing : (b : Bool) (n m : ℕ) → n ≡ 0 → m ≡ cond b n 0 + m
      nothing true n m e = omega (arith, e)
      nothing false n m e = omega arith

      go : (b : Bool) → nat_lt 0 (value x) ≡ b → county_weight (map (weight_for value) (cond b (x ∷ kept) kept)) c ≡ cond (x == c) (value x) 0 + county_weight (weights_above value xs) c
      go true e = refl
      go false e = nothing (x == c) (value x) (county_weight (weights_above value xs) c) (omega (arith, ltb-false 0 (value x) e))

  weight_nowhere : (cs : List ℕ) (c : ℕ) → contains cs c ≡ false → county_weight (weights_above value cs) c ≡ 0
  weight_nowhere [] c e = refl
  weight_nowhere (x ∷ xs) c e = one_more x xs c ∙ go (x == c) e (weight_nowhere xs c)
    where
      go : (b : Bool) → (b || contains xs c) ≡ false → (contains xs c ≡ false → county_weight (weights_above value xs) c ≡ 0) → cond b (value x) 0 + county_weight (weights_above value xs) c ≡ 0
      go true k next = absurd (false≢true (sym k))
      go false k next = omega (arith, next k)

  -- the weights above 0 give a county what it has, where it stands once among the counties
  weight_there : (cs : List ℕ) (c : ℕ) → count c cs ≤ 1 → contains cs c ≡ true → county_weight (weights_above value cs) c ≡ value c
  weight_there [] c once e = absurd (false≢true e)
  weight_there (x ∷ xs) c once e = one_more x xs c ∙ go (x == c) refl once e (weight_there xs c)
    where
      alone : indicator true + count c xs ≤ 1 → contains xs c ≡ false
      alone l = off (contains xs c) refl
        where
          off : (b : Bool) → contains xs c ≡ b → b ≡ false
          off false k = refl
          off true k = absurd (omega (arith, l, often_some c xs k))

      go : (b : Bool) → (x == c) ≡ b → indicator b + count c xs ≤ 1 → (b || contains xs c) ≡ true → (count c xs ≤ 1 → contains xs c ≡ true → county_weight (weights_above value xs) c ≡ value c) → cond b (value x) 0 + county_weight (weights_above value xs) c ≡ value c
      go true k l m next = omega (arith, weight_nowhere xs c (alone l), ap value (eqb-true x c k))
      go false k l m next = omega (arith, next (omega (arith, l)) m)

  ascend_for : (cs : List ℕ) → AllPairs (λ x y. x < y) cs → ascend (map (weight_for value) cs) ≡ true
  ascend_for [] up = refl
  ascend_for (x ∷ []) up = refl
  ascend_for (x ∷ y ∷ ys) up = ap (λ b. b && ascend (map (weight_for value) (y ∷ ys))) (lt-ltb x y (head_before (λ a b. a < b) x (y ∷ ys) up y (inl refl))) ∙ ascend_for (y ∷ ys) (tail_pairs (λ a b. a < b) x (y ∷ ys) up)

  -- they ascend where the counties do
  pub above_ascend : (cs : List ℕ) → AllPairs (λ x y. x < y) cs → ascend (weights_above value cs) ≡ true
  above_ascend cs up = ascend_for (filter (λ c. nat_lt 0 (value c)) cs) (filter_pairs (λ x y. x < y) (λ c. nat_lt 0 (value c)) cs up)

  -- each is the weight of one of the counties
  pub above_known : (cs : List ℕ) (w : Weight) → Has (weights_above value cs) w → contains cs w.county ≡ true
  above_known cs w h =
      let r = has_mapped (weight_for value) (filter (λ c. nat_lt 0 (value c)) cs) w h in
      subst (λ (z : Weight). contains cs z.county ≡ true) r.2 (has_member cs r.0 (has-filter (λ c. nat_lt 0 (value c)) cs r.0 r.1).0)

  -- no more than there are counties
  pub above_few : (cs : List ℕ) → length (weights_above value cs) ≤ length cs
  above_few cs =
      let q = λ (c : ℕ). nat_lt 0 (value c) in
      omega (arith, length-map (filter q cs) (weight_for value), length-filter q cs, count_by-le-length q cs)

module _ (p : Problem) (law : IsProblem p) (order : List ℕ) (whole : IsOrder p order) where
  in_problem : (c : ℕ) → contains order c ≡ true → contains p.counties c ≡ true
  in_problem c e = go (contains p.counties c) refl
    where
      go : (b : Bool) → contains p.counties c ≡ b → b ≡ true
      go true k = refl
      go false k = absurd (omega (arith, whole c, often_some c order e, ap indicator k))

  -- there are as many counties as places
  pub counties_few : length p.counties ≡ length order
  counties_few = sym (length_alike order p.counties same)
    where
      same : Alike order p.counties
      same c = go (contains p.counties c) refl
        where
          go : (b : Bool) → contains p.counties c ≡ b → count c order ≡ count c p.counties
          go true k = omega (arith, whole c, ap indicator k, law.once c, often_some c p.counties k)
          go false k = omega (arith, whole c, ap indicator k, often_none c p.counties k)

  -- the table has what the weights give to the counties of the order
  pub table_weights : (table : List ℕ) → length table ≡ length order → table ≡ map (county_weight (weights_above (placed_weight order table) p.counties)) order
  table_weights table e = ext_get_or 0 table (map w order) (omega (arith, e, length-map order w)) each
    where
      w : ℕ → ℕ
      w = county_weight (weights_above (placed_weight order table) p.counties)

      once : (c : ℕ) → count c order ≤ 1
      once = order_once p order whole

      each : (i : ℕ) → i < length table → get_or table i 0 ≡ get_or (map w order) i 0
      each i l =
          let there : i < length order = omega (arith, e, l) in
          let c = code_at order i in
          sym (get_or-map w order i 0 0 there
          ∙ (weight_there (placed_weight order table) p.counties c (law.once c) (in_problem c (has_member order c (has_get order i 0 there)))
          ∙ placed_at order table once i c there refl))
