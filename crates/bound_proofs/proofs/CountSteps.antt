-- What loops over counties and over lists of groups come to.
use Rattle.std.proofs.Common.{◌≡◌, ℕ, zero, suc, ◌+◌, ◌/◌, min, ◌≤◌, ◌<◌, Bool, true, false, ◌&&◌, List, [], ◌∷◌, ◌++◌, map, filter, length, take, drop, get_or, sym, ap, ◌∙◌, subst, arith, ◌↔◌, AllPairs}
use Rattle.std.proofs.lemmas.List.{append-nil, drop_all, get_or-map, length-map}
use Rattle.county_codes.specs.declared.county.County.{County}
use Rattle.county_codes.specs.Counties.{codes_of}
use Rattle.grouping_laws.specs.Sets.{count, contains}
use Rattle.grouping_laws.specs.Problem.{Problem}
use Rattle.grouping_laws.specs.GroupsFrom.{place}
use Rattle.grouping_laws.specs.PlaceProblem.{code_at}
use Rattle.grouping_laws.proofs.Elements.{has_get}
use Rattle.grouping_laws.proofs.Places.{has_member, place_at}
use Rattle.certificate_data.specs.Round.{Round}
use Rattle.certificate_laws.specs.State.{State}
use Rattle.certificate_data.specs.Tree.{Weight, weigh}
use Rattle.certificate_data.specs.declared.format.Format.{Format}
use Rattle.certificate_laws.specs.Search.{IsInFittingGroup, IsCountLine}
use Rattle.certificate_data.specs.declared.weights.Weight.{Weight as WeightHeld}
use Rattle.certificate_data.specs.TreeValue.{weight_of as held_weight}
use Rattle.bound_proofs.specs.CountLeaves.{has_county, IsListOf, AreListsFrom}
use Rattle.bound_proofs.proofs.CountWeights.{one_for, made_line}

-- the list for a size
pub list_at : {C : Type 0} (test : C → ℕ → Bool) (order : List ℕ) (p : Problem) (round : Round) (s : State) (i : ℕ) (lists : List (List C)) (k : ℕ) (d : List C) → AreListsFrom test order p round s i lists → k < length lists
    → IsListOf test order p round s (i + k) (get_or lists k d)
list_at test order p round s i [] k d are l = absurd (omega (arith, l))
list_at test order p round s i (x ∷ lists) zero d are l = subst (λ n. IsListOf test order p round s n x) (omega arith) are.0
list_at test order p round s i (x ∷ lists) (suc k) d are l = subst (λ n. IsListOf test order p round s n (get_or lists k d)) (omega arith) (list_at test order p round s (i + 1) lists k d are.1 (omega (arith, l)))

-- the list that a loop over lists is at
pub list_here : {C V : Type 0} (f : V → List C) (test : C → ℕ → Bool) (order : List ℕ) (p : Problem) (round : Round) (s : State) (lists : List V) (k size : ℕ) (item : V) (sets : List C) → AreListsFrom test order p round s 1 (map f lists) → k < length lists
    → item ≡ get_or lists k item → sets ≡ f item → size ≡ k + 1 → IsListOf test order p round s size sets
list_here f test order p round s lists k size item sets are l is same e =
    let at : get_or (map f lists) k sets ≡ sets = get_or-map f lists k item sets l ∙ (ap f (sym is) ∙ sym same) in
    subst (IsListOf test order p round s size) at (subst (λ n. IsListOf test order p round s n (get_or (map f lists) k sets)) (omega (arith, e)) (list_at test order p round s 1 (map f lists) k sets are (omega (arith, l, length-map lists f))))

-- the first lists
pub first_lists : {C V : Type 0} (f : V → List C) (test : C → ℕ → Bool) (order : List ℕ) (p : Problem) (round : Round) (s : State) (i : ℕ) (lists : List V) (k : ℕ) → AreListsFrom test order p round s i (map f lists) → AreListsFrom test order p round s i (map f (take k lists))
first_lists f test order p round s i lists zero are = tt
first_lists f test order p round s i [] (suc k) are = tt
first_lists f test order p round s i (x ∷ lists) (suc k) are = (are.0, first_lists f test order p round s (i + 1) lists k are.1)

-- the county at a place, by its place
pub county_at : {C : Type 0} (order : List ℕ) → ((c : ℕ) → count c order ≤ 1) → (test : C → ℕ → Bool) (set : C) (i c : ℕ) → i < length order → code_at order i ≡ c → has_county order test set c ≡ test set i
county_at order once test set i c l e =
    subst (λ z. (contains order z && test set (place order z)) ≡ test set i) e
    (ap (λ b. b && test set (place order (code_at order i))) (has_member order (code_at order i) (has_get order i 0 l)) ∙ ap (test set) (place_at order once i l))

-- a county at no place
pub county_nowhere : {C : Type 0} (order : List ℕ) (test : C → ℕ → Bool) (set : C) (c : ℕ) → contains order c ≡ false → has_county order test set c ≡ false
county_nowhere order test set c e = ap (λ b. b && test set (place order c)) e

-- the lesser of two quotients
pub lesser_share : (left room size i j weight n least : ℕ) → left ≡ room → i ≡ size → j ≡ size → weight ≡ n → least ≡ min (left / i) (weight / j) → min (room / size) (n / size) ≡ least
lesser_share left room size i j weight n least a b d e f =
    sym (f ∙ (ap (λ z. min (z / i) (weight / j)) a ∙ (ap (λ z. min (room / z) (weight / j)) b ∙ (ap (λ z. min (room / size) (weight / z)) d ∙ ap (λ z. min (room / size) (z / size)) e))))

module _ (counted : ℕ → Bool) where
  -- the weights of the counted ones of some counties
  abbrev pub weights_for : List County → List Weight
  weights_for counties = map one_for (filter counted (codes_of counties))

-- where all counties were gone over, the weights make the count line
pub made_of_weights : (format : Format) (p : Problem) (s : State) (i : ℕ) (counted : ℕ → Bool) → ((c : ℕ) → (counted c ≡ true) ↔ IsInFittingGroup format p s i c) → (counties : List County) → codes_of counties ≡ p.counties → AllPairs (λ x y. x < y) (codes_of counties)
    → (k : ℕ) → length counties ≤ k → (ws held : List WeightHeld) → map held_weight ws ++ weights_for counted (drop k counties) ≡ weights_for counted counties → held ≡ ws → (quota : ℕ) → quota ≡ i → IsCountLine format p s i (weigh quota (map held_weight held))
made_of_weights format p s i counted tests counties known up k over ws held same e quota f =
    let all : map held_weight held ≡ map one_for (filter counted p.counties) =
    ap (map held_weight) e ∙ (sym (append-nil (map held_weight ws)) ∙ (ap (λ z. map held_weight ws ++ weights_for counted z) (sym (drop_all k counties over)) ∙ (same ∙ ap (λ z. map one_for (filter counted z)) known))) in
    subst (λ z. IsCountLine format p s i (weigh quota z)) (sym all) (subst (λ n. IsCountLine format p s i (weigh n (map one_for (filter counted p.counties)))) (sym f) (made_line format p s i counted tests (subst (AllPairs (λ x y. x < y)) known up)))
