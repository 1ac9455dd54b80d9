-- The search of a piece of a plain round.
use Rattle.std.specs.Prelude.{ℕ, ◌≡◌, ◌≤◌, ◌<◌, Bool, length}
use Rattle.county_codes.specs.Limits.{most_counties}
use Rattle.county_problem.specs.OrderedValue.{code_at}
use Rattle.connected_sets.specs.Graphs.{IsGraph}
use Rattle.certificate_data.specs.declared.format.Format.TheVariants.{Plain}
use Rattle.certificate_laws.specs.State.{State, IsState}
use Rattle.state_groups.specs.declared.state.State.{State as StateHeld}
use Rattle.certificate_laws.specs.Proving.{CanBranch}
use Rattle.state_groups.specs.PlacedValues.{IsPlaced}
use Rattle.search_groups.specs.declared.input.SearchInput.{SearchInput}
use Rattle.branch_bound.specs.declared.outcome.PlainMove.{PlainMove}
use Rattle.branch_bound.specs.declared.outcome.PlainMove.TheVariants as next_move
use Rattle.branch_bound.specs.Searching.{search_problem, search_round, search_state, IsEnd, IsBetter}

-- the rows are those of the order, which is the round's, the sets have room for its places, and the round is a plain
-- one
pub record IsPlainGround {C : Type 0} (places : ℕ) (test : C → ℕ → Bool) (g : SearchInput C) : Type 0 where
  pub graph : IsGraph test places g.graph.now
  pub order : g.graph.now.ordered.now.order ≡ g.round.now.order
  pub small : g.round.now.limit ≤ most_counties
  pub plain : g.round.now.format ≡ Plain

-- the state is one of the round, by the places of the order
pub record IsStateOf {C : Type 0} (test : C → ℕ → Bool) (g : SearchInput C) (s : StateHeld C) : Type 0 where
  pub placed : IsPlaced (length g.graph.now.ordered.now.order) test s
  pub state : IsState (search_problem g) (search_round g) (search_state g test s)

-- a leaf that is valid, a grouping that is better, or the place of a county to branch at
abbrev pub IsNextPlainMove : {C : Type 0} → (C → ℕ → Bool) → SearchInput C → State → PlainMove → Type 0
IsNextPlainMove test g s (next_move.Leaf leaf) = IsEnd (search_problem g) (search_round g) s leaf
IsNextPlainMove test g s (next_move.Better found) = IsBetter (search_problem g) (search_round g) s found
IsNextPlainMove test g s (next_move.Branch place) =
    (place < length g.graph.now.ordered.now.order)
    × CanBranch (search_round g) s (code_at g.graph.now.ordered.now.order place) g.round.now.limit
