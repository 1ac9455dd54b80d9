-- What the verdict on a partial tree says of its states.
use Rattle.std.specs.Prelude.{ℕ, ◌≡◌, ◌≤◌, Bool, List, ◌++◌, length, map, All}
use Rattle.grouping_laws.specs.Problem.{Problem}
use Rattle.connected_sets.specs.Graphs.{graph_order}
use Rattle.certificate_data.specs.Round.{Round}
use Rattle.certificate_laws.specs.State.{State}
use Rattle.state_groups.specs.declared.state.State.{State as StateHeld}
use Rattle.state_groups.specs.PlacedValues.{state_at, IsPlaced}
use Rattle.certificate_checker.specs.Judging.{IsCheckInput}
use Rattle.board_laws.specs.PartialTrees.{PartialTree, PartialTakes}
use Rattle.partial_trees.specs.declared.input.PartInput.{PartInput}
use Rattle.partial_trees.specs.OpenStates.{open_states, states_in}
use Rattle.partial_trees.specs.Refusals.{IsPartProof, AreTakeProofs}

-- the county graph is by the round's order, whose codes have five digits
pub record IsPartInput {C : Type 0} (places : ℕ) (test : C → ℕ → Bool) (g : PartInput C) : Type 0 where
  pub check : IsCheckInput places test g.check
  pub five : All (λ c. c ≤ 99999) (graph_order g.check.graph.now)

-- these states, by places of the order, are put behind the others
pub record Adds {C : Type 0} (order : List ℕ) (test : C → ℕ → Bool) (old new : List (StateHeld C))
    (states : List State) : Type 0 where
  pub more : List (StateHeld C)
  pub is : new ≡ old ++ more
  pub placed : All (IsPlaced (length order) test) more
  pub stand : map (state_at order test) more ≡ states

-- it is a part, and the states at its open leaves are put behind the others
pub record IsTakenPart {C : Type 0} (test : C → ℕ → Bool) (p : Problem) (round : Round) (s : State)
    (tree : PartialTree) (old new : List (StateHeld C)) : Type 0 where
  pub proof : IsPartProof p round s tree
  pub adds : Adds round.order test old new (open_states tree round s)

-- the same of the takes of these groups
pub record AreTakenParts {C : Type 0} (test : C → ℕ → Bool) (p : Problem) (round : Round) (s : State)
    (groups : List (List ℕ)) (takes : PartialTakes) (old new : List (StateHeld C)) : Type 0 where
  pub proofs : AreTakeProofs p round s groups takes
  pub adds : Adds round.order test old new (states_in takes round s)
