-- The state that a position of the walk stands for.
use Rattle.std.specs.Prelude.{ℕ, ◌+◌, ◌≡◌, cond, ◌==◌, map, filter}
use Rattle.grouping_laws.specs.Problem.{Problem}
use Rattle.certificate_laws.specs.State.{State}
use Rattle.list_groupings.specs.declared.position.Waiting.{Waiting}
use Rattle.list_groupings.specs.declared.position.Position.{Position}

-- a county with the least size of its group
abbrev pub waiting : (ℕ → ℕ) → ℕ → Waiting
waiting least c = record { code = c; least = least c }

-- the county itself is raised past the limit, any other stays
abbrev pub raised_past : ℕ → ℕ → Waiting → Waiting
raised_past county limit w = record { code = w.code; least = cond (w.code == county) (limit + 1) w.least }

-- the position has the closed groups, and the counties of the rest with their least sizes, in the order of the problem
pub record IsPosition (p : Problem) (s : State) (position : Position) : Type 0 where
  pub closed : position.closed.items ≡ s.closed
  pub rest : position.rest.items ≡ map (waiting s.least) (filter s.rest p.counties)
