-- The county graph: the problem by places, with the places adjacent to each place.
use Rattle.std.specs.Prelude.{ℕ, ◌≡◌, ◌<◌, ◌≤◌, ◌^◌, Bool, List, length, get_or}
use Rattle.county_codes.specs.Limits.{most_counties}
use Rattle.grouping_laws.specs.Problem.{Problem, IsProblem, people_of}
use Rattle.grouping_laws.specs.Places.{places_below}
use Rattle.grouping_laws.specs.GroupsFrom.{IsOrder}
use Rattle.county_problem.specs.ProblemValue.{problem_of}
pub use Rattle.county_problem.specs.OrderedValue.{problem_at}
use Rattle.connected_sets.specs.declared.county_graph.CountyGraph.{CountyGraph}

-- the rows of a problem by places: for each place the set of the places adjacent to it
pub record AreRows (C : Type 0) (test : C → ℕ → Bool) (p : Problem) (n : ℕ) (near : List C) : Type 0 where
  pub problem : IsProblem p
  pub count : length near ≡ n
  pub row : (x y : ℕ) (d : C) → x < n → y < n → test (get_or near x d) y ≡ p.adjacent x y

-- the problem of a county graph, by codes
abbrev pub graph_problem : {C : Type 0} → CountyGraph C → Problem
graph_problem g = problem_of g.ordered.now.problem

-- the codes of its places, in their order
abbrev pub graph_order : {C : Type 0} → CountyGraph C → List ℕ
graph_order g = g.ordered.now.order

-- how many places it has
abbrev pub graph_places : {C : Type 0} → CountyGraph C → ℕ
graph_places g = length g.ordered.now.order

-- its problem by places
abbrev pub place_problem : {C : Type 0} → CountyGraph C → Problem
place_problem g = problem_at g.ordered.now

-- There are as many places as the sets hold, or fewer, and 256 at most. The rows are those of the problem by places.
-- No sum of people is too great.
pub record IsGraph {C : Type 0} (test : C → ℕ → Bool) (held : ℕ) (g : CountyGraph C) : Type 0 where
  pub fits : graph_places g ≤ held
  pub few : graph_places g ≤ most_counties
  pub order : IsOrder (graph_problem g) (graph_order g)
  pub rows : AreRows C test (place_problem g) (graph_places g) g.near.items
  pub people : people_of (place_problem g) (places_below (graph_places g)) ≤ g.ordered.now.problem.total_people
  pub bound : g.ordered.now.problem.total_people ≤ 2 ^ 40
