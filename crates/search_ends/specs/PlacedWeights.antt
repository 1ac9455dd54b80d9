-- Weights of a line, by the places of an order.
use Rattle.std.specs.Prelude.{ℕ, ◌≡◌, ◌≤◌, cond, nat_lt, true, List, map, filter, length, get_or}
use Rattle.std.specs.List.{AllByRecursion}
use Rattle.county_codes.specs.Limits.{most_counties}
use Rattle.grouping_laws.specs.Sets.{contains}
use Rattle.grouping_laws.specs.GroupsFrom.{place}
use Rattle.certificate_data.specs.declared.weights.Weight.{Weight}
use Rattle.certificate_lines.specs.Lines.{ascend}
use Rattle.certificate_lines.specs.Fitting.{FitsWeight}

-- what a table with a weight for each place gives to a county
abbrev pub placed_weight : List ℕ → List ℕ → ℕ → ℕ
placed_weight order table c = cond (contains order c) (get_or table (place order c) 0) 0

-- the weight of a county
abbrev pub weight_for : (ℕ → ℕ) → ℕ → Weight
weight_for value c = record { county = c; weight = value c }

-- the weights above 0 of some counties, in turn
abbrev pub weights_above : (ℕ → ℕ) → List ℕ → List Weight
weights_above value counties = map (weight_for value) (filter (λ c. nat_lt 0 (value c)) counties)

-- the weights of a line: those above 0 of the counties, each as the table has it for the county's place; their numbers
-- are in their ranges
pub record AreTableWeights (order counties table : List ℕ) (weights : List Weight) : Type 0 where
  pub are : weights ≡ weights_above (placed_weight order table) counties
  pub few : length weights ≤ most_counties
  pub each : AllByRecursion FitsWeight weights
  pub ascending : ascend weights ≡ true
