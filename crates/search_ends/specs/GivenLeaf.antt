-- A state that a search is to end, and a leaf that it ends a state with.
use Rattle.std.specs.Prelude.{ℕ, ◌≡◌, ◌≤◌, Bool, length}
use Rattle.std.specs.List.{AllByRecursion}
use Rattle.county_codes.specs.Limits.{most_counties}
use Rattle.grouping_laws.specs.Problem.{Problem}
use Rattle.certificate_data.specs.Round.{Round}
use Rattle.certificate_laws.specs.State.{State}
use Rattle.certificate_laws.specs.Leaves.{IsValidLeaf}
use Rattle.certificate_data.specs.declared.tree.Leaf.{Leaf}
use Rattle.certificate_data.specs.TreeValue.{leaf_of}
use Rattle.certificate_text.specs.Trees.{leaf_items}
use Rattle.certificate_text.specs.TreeItems.{FitsInTree}
use Rattle.list_laws.specs.Completeness.{IsCompleteLeaf}
use Rattle.state_groups.specs.declared.state.State.{State as StateHeld}
use Rattle.state_groups.specs.PlacedValues.{IsPlaced}
use Rattle.search_groups.specs.declared.input.SearchInput.{SearchInput}
use Rattle.search_groups.specs.Positions.{search_problem, search_round, search_state}

-- the sets have room for the places of the order, which is the round's, and the state is by these places
pub record IsStateIn {C : Type 0} (places : ℕ) (test : C → ℕ → Bool) (g : SearchInput C) (s : StateHeld C) : Type 0 where
  pub fits : length g.graph.now.ordered.now.order ≤ places
  pub order : g.graph.now.ordered.now.order ≡ g.round.now.order
  pub limit : g.round.now.limit ≤ most_counties
  pub placed : IsPlaced (length g.graph.now.ordered.now.order) test s

-- the leaf is valid at the state, and its numbers are in the ranges of its lines
pub record IsGivenLeaf (p : Problem) (round : Round) (s : State) (leaf : Leaf) : Type 0 where
  pub valid : IsValidLeaf p round s (leaf_of leaf)
  pub lines : AllByRecursion (FitsInTree round.format) (leaf_items (leaf_of leaf))

-- the same of a search's problem and round, and of a state by places
abbrev pub IsGivenAt : {C : Type 0} → (C → ℕ → Bool) → SearchInput C → StateHeld C → Leaf → Type 0
IsGivenAt test g s leaf = IsGivenLeaf (search_problem g) (search_round g) (search_state g test s) leaf

-- the leaf is complete there
abbrev pub IsCompleteAt : {C : Type 0} → (C → ℕ → Bool) → SearchInput C → StateHeld C → Leaf → Type 0
IsCompleteAt test g s leaf = IsCompleteLeaf (leaf_of leaf) (search_problem g) (search_round g) (search_state g test s)
