-- Where a search or a checker stands in a wide round: at a state, of whose groups something is known.
use Rattle.std.specs.Prelude.{ℕ, ◌+◌, ◌≡◌, ◌≤◌, ◌<◌, Bool, true, List, length, Contains, MatchOption, ⊤}
use Rattle.county_codes.specs.Limits.{most_counties}
use Rattle.grouping_laws.specs.Sets.{contains}
use Rattle.grouping_laws.specs.Problem.{Problem}
use Rattle.county_problem.specs.ProblemValue.{problem_of}
use Rattle.county_problem.specs.OrderedValue.{code_at}
use Rattle.connected_sets.specs.Graphs.{IsGraph}
use Rattle.connected_laws.specs.Listing.{AreBelow}
use Rattle.certificate_data.specs.Round.{Round}
use Rattle.certificate_data.specs.declared.format.Format.TheVariants.{Wide}
use Rattle.certificate_data.specs.RoundValue.{round_of}
use Rattle.certificate_laws.specs.State.{State, IsState}
use Rattle.state_groups.specs.declared.state.State.{State as StateHeld}
use Rattle.state_groups.specs.PlacedValues.{state_at, codes_of_sets, IsPlaced}
use Rattle.search_groups.specs.KnownGroups.{AreCandidates, IsKnown}
use Rattle.search_groups.specs.declared.input.SearchInput.{SearchInput}
use Rattle.search_groups.specs.declared.position.Larger.{Larger}
use Rattle.search_groups.specs.declared.position.Position.{Position}

-- the problem, the round and the order that a search goes by, and a state by its codes
abbrev pub search_problem : {C : Type 0} → SearchInput C → Problem
search_problem g = problem_of g.graph.now.ordered.now.problem

abbrev pub search_round : {C : Type 0} → SearchInput C → Round
search_round g = round_of g.round.now

abbrev pub search_state : {C : Type 0} → SearchInput C → (C → ℕ → Bool) → StateHeld C → State
search_state g test s = state_at g.graph.now.ordered.now.order test s

-- the county graph is that of the round's order, and the round is a wide one
pub record IsSearchInput {C : Type 0} (places : ℕ) (test : C → ℕ → Bool) (g : SearchInput C) : Type 0 where
  pub graph : IsGraph test places g.graph.now
  pub order : g.graph.now.ordered.now.order ≡ g.round.now.order
  pub small : g.round.now.limit ≤ most_counties
  pub wide : g.round.now.format ≡ Wide

-- these are groups of one county more than the size, among them all that fit the state
pub record IsLargerAt {C : Type 0} (test : C → ℕ → Bool) (g : SearchInput C) (s : State) (size : ℕ)
    (l : Larger C) : Type 0 where
  pub below : AreBelow (length g.graph.now.ordered.now.order) test l.groups.items
  pub known : AreCandidates (search_problem g) (search_round g) s (size + 1)
      (codes_of_sets g.graph.now.ordered.now.order test l.groups.items)

-- A position is at a state of the round, of which the groups of `at.size` counties, at most the limit, are known, and
-- maybe those of one county more.
pub record IsPositionAt {C : Type 0} (test : C → ℕ → Bool) (g : SearchInput C) (s : State)
    (at : Position C) : Type 0 where
  pub placed : IsPlaced (length g.graph.now.ordered.now.order) test at.state
  pub is : search_state g test at.state ≡ s
  pub state : IsState (search_problem g) (search_round g) s
  pub small : at.size ≤ g.round.now.limit
  pub below : AreBelow (length g.graph.now.ordered.now.order) test at.groups.items
  pub known : IsKnown (search_problem g) (search_round g) s at.size
      (codes_of_sets g.graph.now.ordered.now.order test at.groups.items)
  pub larger : MatchOption at.larger ⊤ (IsLargerAt test g s at.size)

-- a county of a group that is known
pub record IsChoice {C : Type 0} (test : C → ℕ → Bool) (order : List ℕ) (groups : List C) (place : ℕ) : Type 0 where
  pub below : place < length order
  pub group : List ℕ
  pub known : Contains (codes_of_sets order test groups) group
  pub has : contains group (code_at order place) ≡ true
