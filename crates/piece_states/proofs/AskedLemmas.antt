-- What counties ask for, by places and by codes.
use Rattle.std.proofs.Common.{◌≡◌, ℕ, ◌<◌, Bool, List, length, ap, ◌∙◌}
use Rattle.grouping_laws.specs.Problem.{Problem}
use Rattle.grouping_laws.specs.GroupsFrom.{IsOrder}
use Rattle.grouping_laws.proofs.PlaceProblem.{order_once}
use Rattle.county_problem.specs.OrderedValue.{code_at}
use Rattle.certificate_laws.proofs.PlaceStates.{states_have_codes}
use Rattle.state_groups.specs.declared.state.State.{State as StateHeld}
use Rattle.state_groups.specs.StateValue.{state_of}
use Rattle.state_groups.specs.PlacedValues.{state_at, IsPlaced}

-- whether a county is in the rest, at its place and by its code
pub rest_told : {C : Type 0} (p : Problem) (order : List ℕ) (test : C → ℕ → Bool) (held : StateHeld C) → IsOrder p order → IsPlaced (length order) test held
    → (i county : ℕ) → i < length order → code_at order i ≡ county → test held.rest i ≡ (state_at order test held).rest county
rest_told p order test held whole placed i county inside is =
    (states_have_codes.there order (state_of test held) (order_once p order whole) placed.rest).rest.same i inside
    ∙ ap (state_at order test held).rest is
