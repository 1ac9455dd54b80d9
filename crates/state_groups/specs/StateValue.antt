-- The state that a value of the Rust type stands for.
use Rattle.std.specs.Prelude.{ℕ, Bool, map, length, get_or}
use Rattle.place_sets.specs.PlaceSets.{places_of}
use Rattle.state_groups.specs.declared.state.State.{State as StateHeld}
use Rattle.certificate_laws.specs.State.{State}

-- The state by places: the lists of places of the closed groups, the rest, and the least size at each place. There are
-- as many places as numbers.
abbrev pub state_of : {C : Type 0} → (C → ℕ → Bool) → StateHeld C → State
state_of test s = record {
  closed = map (λ g. places_of (length s.least.items) (test g)) s.closed.items;
  rest = test s.rest;
  least = λ i. get_or s.least.items i 0;
}
