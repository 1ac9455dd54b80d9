-- What lines allow, and how many closed groups there are.
use Rattle.std.proofs.Common.{◌≡◌, ℕ, ◌/◌, Bool, ◌==◌, List, map, min, length, subst, ap, ◌∙◌}
use Rattle.std.proofs.lemmas.List.{length-map}
use Rattle.grouping_laws.specs.Sets.{indicator, sum_by}
use Rattle.grouping_laws.specs.Problem.{Problem}
use Rattle.grouping_laws.specs.Grouping.{counts}
use Rattle.grouping_laws.specs.Places.{codes_at}
use Rattle.grouping_laws.specs.PlaceProblem.{code_at}
use Rattle.place_sets.specs.PlaceSets.{places_of}
use Rattle.place_sets.proofs.Sums.{sum_by-map, total_same}
use Rattle.certificate_data.specs.declared.format.Format.{Format}
use Rattle.state_groups.specs.declared.state.State.{State as StateHeld}
use Rattle.certificate_laws.specs.Regions.{listed}
use Rattle.certificate_laws.specs.State.{State, open_to}
use Rattle.certificate_data.specs.Tree.{weigh}
use Rattle.certificate_laws.specs.BoundLines.{room_at, allowance, IsFair}
use Rattle.certificate_data.specs.declared.weights.Weight.{Weight as WeightHeld}
use Rattle.state_groups.specs.PlacedValues.{state_at}
use Rattle.state_judge.specs.Weights.{weights_of, county_weight}

closed_sizes : {C : Type 0} (order : List ℕ) (h : C → List ℕ) (xs : List C) (i : ℕ) → counts (map (codes_at order) (map h xs)) i ≡ sum_by (λ x. indicator (length (h x) == i)) xs
closed_sizes order h xs i =
    sum_by-map (λ s. indicator (length s == i)) (codes_at order) (map h xs)
    ∙ (sum_by-map (λ y. indicator (length (codes_at order y) == i)) h xs ∙ total_same (λ x. indicator (length (codes_at order (h x)) == i)) (λ x. indicator (length (h x) == i)) xs (λ x. ap (λ n. indicator (n == i)) (length-map (h x) (code_at order))))

-- closed groups have as many counties as places
pub closed_counts : (C : Type 0) (test : C → ℕ → Bool) (order : List ℕ) (held : StateHeld C) (i : ℕ) → length held.least.items ≡ length order
    → counts (state_at order test held).closed i ≡ sum_by (λ g. indicator (length (places_of (length order) (test g)) == i)) held.closed.items
closed_counts C test order held i e =
    ap (λ n. counts (map (codes_at order) (map (λ (g : C). places_of n (test g)) held.closed.items)) i) e ∙ closed_sizes order (λ (g : C). places_of (length order) (test g)) held.closed.items i

-- what a line of weights allows
pub weighed : (format : Format) (p : Problem) (s : State) (i used quota : ℕ) (ws line : List WeightHeld) (left size weight all : ℕ) → ws ≡ line → left ≡ room_at p s i used → size ≡ i
    → IsFair format p s i (weigh quota (weights_of ws)) × (weight ≡ sum_by (county_weight ws) (listed p (open_to s i))) → all ≡ min (left / size) (weight / quota)
    → IsFair format p s i (weigh quota (weights_of line)) × (all ≡ allowance p s i used (weigh quota (weights_of line)))
weighed format p s i used quota ws line left size weight all e a b h d =
    subst (λ (z : List WeightHeld). IsFair format p s i (weigh quota (weights_of z)) × (all ≡ allowance p s i used (weigh quota (weights_of z)))) e
    (h.0, d ∙ (ap (λ z. min (z / size) (weight / quota)) a ∙ (ap (λ z. min (room_at p s i used / z) (weight / quota)) b ∙ ap (λ z. min (room_at p s i used / i) (z / quota)) h.1)))
