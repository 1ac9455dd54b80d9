-- What the loops over groups and counties come to.
use Rattle.std.proofs.Common.{◌≡◌, ℕ, ◌+◌, ◌/◌, ◌≤◌, ◌<◌, List, [], ◌∷◌, ◌++◌, take, drop, length, get_or, sym, ap, ◌∙◌, subst, arith, add-one, drop-cons, append_assoc, All, AllPairs}
use Rattle.std.proofs.lemmas.Bool.Decides.{nat_tests}
use Rattle.std.proofs.lemmas.List.{append-nil, drop_all}
use Rattle.std.proofs.lemmas.List.Elements.{All-more, recursion_from_All}
use Rattle.county_codes.specs.Limits.{most_counties}
use Rattle.county_codes.specs.declared.county.County.{County}
use Rattle.county_codes.specs.Counties.{codes_of}
use Rattle.certificate_lines.specs.Lines.{ascend}
use Rattle.grouping_laws.specs.Problem.{Problem, IsProblem}
use Rattle.grouping_laws.specs.GroupsFrom.{IsOrder}
use Rattle.certificate_lines.specs.Fitting.{FitsWeight}
use Rattle.certificate_data.specs.declared.weights.Weight.{Weight}
use Rattle.search_ends.specs.PlacedWeights.{placed_weight, weight_for, weights_above, AreTableWeights}
use Rattle.search_ends.proofs.PlacedWeights.{above_few, above_ascend, counties_few}

-- a lesser number, against one element more
pub lesser_next : {X : Type 0} (f : X → ℕ) (xs : List X) (i : ℕ) (item : X) (a b : ℕ) → b ≤ a → b ≤ f item → i < length xs → item ≡ get_or xs i item → All (λ x. a ≤ f x) (take i xs) → All (λ x. b ≤ f x) (take (i + 1) xs)
lesser_next f xs i item a b le here l is all =
    All-more (λ x. b ≤ f x) xs i item l (λ k d m. omega (arith, all k d m, le)) (subst (λ x. b ≤ f x) is here)

-- where all counties were gone over, the weights are those of the table
pub made_weights : (p : Problem) → IsProblem p → (order table : List ℕ) → IsOrder p order → length order ≤ most_counties → (counties : List County) → codes_of counties ≡ p.counties → AllPairs (λ x y. x < y) (codes_of counties) → (k : ℕ) → length counties ≤ k → (ws held : List Weight)
    → ws ++ weights_above (placed_weight order table) (codes_of (drop k counties)) ≡ weights_above (placed_weight order table) (codes_of counties) → All FitsWeight ws → held ≡ ws → AreTableWeights order p.counties table held
made_weights p law order table whole small counties known up k over ws held same each e = subst (AreTableWeights order p.counties table) (sym e) (record {
  are = are;
  few = subst (λ (z : List Weight). length z ≤ most_counties) (sym are) (omega (arith, above_few value p.counties, counties_few p law order whole, small));
  each = recursion_from_All FitsWeight ws each;
  ascending = ap ascend are ∙ above_ascend value p.counties (subst (AllPairs (λ x y. x < y)) known up);
})
  where
    value : ℕ → ℕ
    value = placed_weight order table

    are : ws ≡ weights_above value p.counties
    are = sym (append-nil ws) ∙ (ap (λ (z : List County). ws ++ weights_above value (codes_of z)) (sym (drop_all k counties over)) ∙ (same ∙ ap (weights_above value) known))

-- a quotient is below a number, told otherwise
pub less_than : (a b n m k j : ℕ) → a ≡ b → n ≡ m → k ≡ j → a / n < k → b / m < j
less_than a b n m k j e f h l = subst (λ z. z / m < j) e (subst (λ z. a / z < j) f (subst (λ z. a / n < z) h l))

-- a county that weighs something gives a weight more
above_more : (value : ℕ → ℕ) (c : ℕ) (rest : List ℕ) → 0 < value c → weights_above value (c ∷ rest) ≡ weight_for value c ∷ weights_above value rest
above_more value c rest h = grind (arith, nat_tests)

above_past : (value : ℕ → ℕ) (c : ℕ) (rest : List ℕ) → value c ≤ 0 → weights_above value (c ∷ rest) ≡ weights_above value rest
above_past value c rest h = grind (arith, nat_tests)

next_county : (counties : List County) (k : ℕ) (item : County) → k < length counties → item ≡ get_or counties k item → codes_of (drop k counties) ≡ item.code ∷ codes_of (drop (k + 1) counties)
next_county counties k item l e =
    let here : drop k counties ≡ get_or counties k item ∷ drop (k + 1) counties = rw (add-one, drop-cons counties k item) in
    ap codes_of here ∙ ap (λ (z : County). z.code ∷ codes_of (drop (k + 1) counties)) (sym e)

pub weights_on : (value : ℕ → ℕ) (counties : List County) (k : ℕ) (item : County) (done whole : List Weight) → k < length counties → item ≡ get_or counties k item → 0 < value item.code
    → done ++ weights_above value (codes_of (drop k counties)) ≡ whole → (done ++ weight_for value item.code ∷ []) ++ weights_above value (codes_of (drop (k + 1) counties)) ≡ whole
weights_on value counties k item done whole l e some same =
    let f : weights_above value (codes_of (drop k counties)) ≡ weight_for value item.code ∷ weights_above value (codes_of (drop (k + 1) counties)) =
    ap (weights_above value) (next_county counties k item l e) ∙ above_more value item.code (codes_of (drop (k + 1) counties)) some in
    rw append_assoc (ap (λ z. done ++ z) (sym f) ∙ same)

pub weights_past : (value : ℕ → ℕ) (counties : List County) (k : ℕ) (item : County) (done whole : List Weight) → k < length counties → item ≡ get_or counties k item → value item.code ≤ 0
    → done ++ weights_above value (codes_of (drop k counties)) ≡ whole → done ++ weights_above value (codes_of (drop (k + 1) counties)) ≡ whole
weights_past value counties k item done whole l e none same =
    let f : weights_above value (codes_of (drop k counties)) ≡ weights_above value (codes_of (drop (k + 1) counties)) =
    ap (weights_above value) (next_county counties k item l e) ∙ above_past value item.code (codes_of (drop (k + 1) counties)) none in
    ap (λ z. done ++ z) (sym f) ∙ same
