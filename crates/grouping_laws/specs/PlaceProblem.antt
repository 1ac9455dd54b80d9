-- A problem by the places of an order.
use Rattle.std.specs.Prelude.{ℕ, List, length, get_or}
use Rattle.grouping_laws.specs.Problem.{Problem}
use Rattle.grouping_laws.specs.Places.{places_below}

-- the code at a place
abbrev pub code_at : List ℕ → ℕ → ℕ
code_at order place = get_or order place 0

-- a problem by the places of an order: each place stands for the county whose code is there
abbrev pub at_places : Problem → List ℕ → Problem
at_places p order = record p {
  counties = places_below (length order);
  people = λ i. p.people (code_at order i);
  adjacent = λ i j. p.adjacent (code_at order i) (code_at order j);
}
