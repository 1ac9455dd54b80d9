-- A candidate may be closed.
use Rattle.std.proofs.Common.{◌≡◌, ℕ, ◌<◌, Bool, true, List, length, sym, ◌∙◌, refl}
use Rattle.grouping_laws.specs.Sets.{contains}
use Rattle.grouping_laws.specs.Problem.{Problem}
use Rattle.grouping_laws.specs.GroupsFrom.{IsOrder, place}
use Rattle.grouping_laws.specs.PlaceProblem.{code_at}
use Rattle.grouping_laws.proofs.PlaceProblem.{order_once}
use Rattle.connected_laws.proofs.PlaceLists.{some_member}
use Rattle.certificate_data.specs.Round.{Round}
use Rattle.state_groups.specs.declared.state.State.{State as StateHeld}
use Rattle.state_groups.specs.StateValue.{state_of}
use Rattle.certificate_laws.proofs.Completion.{open_rest}
use Rattle.state_groups.specs.PlacedValues.{state_at, codes_of_set, IsPlaced, IsClosable}
use Rattle.state_judge.proofs.LeafLemmas.{rest_at}
use Rattle.search_groups.specs.KnownGroups.{IsCandidateGroup}
use Rattle.search_groups.proofs.KeptSteps.{code_in, place_in}

-- a set of places of the order whose codes are a candidate has a place, and all its places are in the rest
pub candidate_closable : (C : Type 0) (test : C → ℕ → Bool) (order : List ℕ) (p : Problem) → IsOrder p order → (round : Round) (state : StateHeld C) → IsPlaced (length order) test state → (i : ℕ) (set : C) → ((x : ℕ) → test set x ≡ true → x < length order)
    → IsCandidateGroup p round (state_at order test state) i (codes_of_set order test set) → IsClosable test state set
candidate_closable C test order p whole round state placed i set below is = record {
  some = let m = some_member (codes_of_set order test set) is.lawful.connected.some_county in (place order m.0, (place_in C test order (order_once p order whole) set m.0 m.1).1);
  inside = λ x e.
      let l = below x e in
      let shown : contains (codes_of_set order test set) (code_at order x) ≡ true = code_in C test order (order_once p order whole) set x l ∙ e in
      sym (rest_at p order whole (state_of test state) placed.rest x (code_at order x) l refl) ∙ open_rest (state_at order test state) i (code_at order x) (is.inside (code_at order x) shown);
}
