-- What a growth looks at, and where it stands.
use Rattle.std.specs.Prelude.{ℕ, ◌≡◌, Bool, length}
use Rattle.place_sets.specs.PlaceSets.{places_of}
use Rattle.grouping_laws.specs.Problem.{Problem, people_of}
use Rattle.connected_laws.specs.Growing.{IsGrowth, IsFront}
use Rattle.connected_sets.specs.Graphs.{graph_places, place_problem}
use Rattle.connected_sets.specs.declared.input.GrowthInput.{GrowthInput}
use Rattle.connected_sets.specs.declared.input.Growth.{Growth}

-- the problem by places that a growth looks at
abbrev pub problem_in : {C : Type 0} → GrowthInput C → Problem
problem_in g = place_problem g.graph.now

-- how many places it has
abbrev pub places_in : {C : Type 0} → GrowthInput C → ℕ
places_in g = graph_places g.graph.now

-- how many of them a set has
abbrev pub size_in : {C : Type 0} → GrowthInput C → (ℕ → Bool) → ℕ
size_in g set = length (places_of (places_in g) set)

-- the set is connected and not too large, and its front and its people are its own
pub record IsSoundGrowth (C : Type 0) (test : C → ℕ → Bool) (g : GrowthInput C) (stand : Growth C) : Type 0 where
  pub growth : IsGrowth (problem_in g) (places_in g) g.limit (test stand.set) (test stand.free)
  pub front : IsFront (problem_in g) (test stand.set) (test stand.free) (test stand.front)
  pub people : stand.people ≡ people_of (problem_in g) (places_of (places_in g) (test stand.set))
