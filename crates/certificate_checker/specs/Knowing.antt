-- What a checker knows of the groups at a state.
use Rattle.std.specs.Prelude.{ℕ, ◌≡◌, Bool, List, All, Option, Some, None, ⊤}
use Rattle.certificate_data.specs.declared.format.Format.TheVariants.{Wide}
use Rattle.certificate_data.specs.RoundValue.{round_of}
use Rattle.certificate_laws.specs.State.{State}
use Rattle.certificate_laws.specs.Groups.{IsGroupAt}
use Rattle.connected_sets.specs.Graphs.{graph_problem, graph_order}
use Rattle.state_groups.specs.PlacedValues.{codes_of_sets}
use Rattle.search_groups.specs.declared.input.SearchInput.{SearchInput}
use Rattle.search_groups.specs.declared.position.Position.{Position}
use Rattle.search_groups.specs.Positions.{IsPositionAt}
use Rattle.certificate_checker.specs.declared.input.CheckInput.{CheckInput}

-- the county graph and the round, as a search has them
abbrev pub search_of : {C : Type 0} → CheckInput C → SearchInput C
search_of g = record { graph = g.graph; round = g.round }

-- if anything is known at the state, the round is a wide one, and a search might stand there with it
abbrev pub IsKnownAt : {C : Type 0} → (C → ℕ → Bool) → CheckInput C → State → Option (Position C) → Type 0
IsKnownAt test g s None = ⊤
IsKnownAt test g s (Some at) = (g.round.now.format ≡ Wide) × IsPositionAt test (search_of g) s at

-- if the groups of a size are known at the state, each of these is such a group, of some county
abbrev pub AreOfKnownSize : {C : Type 0} → (C → ℕ → Bool) → CheckInput C → State → Option (Position C) → List C → Type 0
AreOfKnownSize {C} test g s known groups =
    (at : Position C)
    → known ≡ Some at
    → All (λ k. (c : ℕ) × IsGroupAt (graph_problem g.graph.now) (round_of g.round.now) s c at.size k)
    (codes_of_sets (graph_order g.graph.now) test groups)
