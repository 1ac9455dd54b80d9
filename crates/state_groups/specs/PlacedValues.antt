-- Values of the Rust types `State` and `CountySet` by the places of an order, and what they say by codes.
use Rattle.std.specs.Prelude.{ℕ, ◌+◌, ◌≡◌, ◌≤◌, ◌<◌, Bool, true, List, length, All}
use Rattle.place_sets.specs.PlaceSets.{places_of}
pub use Rattle.county_problem.specs.OrderCodes.{codes_of_set, codes_of_sets}
use Rattle.state_groups.specs.declared.state.State.{State as StateHeld}
use Rattle.certificate_laws.specs.State.{State}
use Rattle.state_groups.specs.StateValue.{state_of}
use Rattle.certificate_laws.specs.Places.{in_codes}

-- the state by codes
abbrev pub state_at : {C : Type 0} → List ℕ → (C → ℕ → Bool) → StateHeld C → State
state_at order test s = in_codes order (state_of test s)

-- The state has as many places as the order, and its closed groups and its rest take no place twice, so that there are
-- no more closed groups than places.
pub record IsPlaced {C : Type 0} (n : ℕ) (test : C → ℕ → Bool) (s : StateHeld C) : Type 0 where
  pub places : length s.least.items ≡ n
  pub rest : (x : ℕ) → test s.rest x ≡ true → x < n
  pub closed : All (λ g. (x : ℕ) → test g x ≡ true → x < n) s.closed.items
  pub apart : length s.closed.items + length (places_of n (test s.rest)) ≤ n

-- the set may be closed: it has a place, and all its places are in the rest
pub record IsClosable {C : Type 0} (test : C → ℕ → Bool) (s : StateHeld C) (set : C) : Type 0 where
  pub some : (x : ℕ) × (test set x ≡ true)
  pub inside : (x : ℕ) → test set x ≡ true → test s.rest x ≡ true
