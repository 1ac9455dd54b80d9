-- What is told of a state, and the state that is told. A piece of a board stands at a state.
use Rattle.std.specs.Prelude.{ℕ, ◌-◌, ◌&&◌, nat_lt, List, [], ◌∷◌, if◌then◌else◌}
use Rattle.grouping_laws.specs.Problem.{Problem}
use Rattle.certificate_laws.specs.State.{State, empty_state, close, raise}

-- a county of the rest asks for a group of at least `size` counties
pub record Asked : Type 0 where
  pub county : ℕ
  pub size : ℕ

-- the closed groups in their order, and what the counties of the rest ask for
pub record Told : Type 0 where
  pub closed : List (List ℕ)
  pub asked : List Asked

-- of the counties of a list, in their order, those of the rest whose least size isn't 0
abbrev pub asked_by : List ℕ → State → List Asked
asked_by [] s = []
asked_by (c ∷ cs) s =
    if s.rest c && nat_lt 0 (s.least c) then record { county = c; size = s.least c } ∷ asked_by cs s else asked_by cs s

-- what is told of a state by an order: its closed groups, and what is asked in the order
abbrev pub told_of : List ℕ → State → Told
told_of order s = record { closed = s.closed; asked = asked_by order s }

-- the groups are closed, one after the other
abbrev pub close_all : List (List ℕ) → State → State
close_all [] s = s
close_all (g ∷ gs) s = close_all gs (close g s)

-- the counties are raised to what they ask for, one after the other
abbrev pub raise_all : List Asked → State → State
raise_all [] s = s
raise_all (a ∷ more) s = raise_all more (raise a.county (a.size - 1) s)

-- the state that is told: the groups are closed first, and then the counties are raised
abbrev pub state_told : Problem → Told → State
state_told p told = raise_all told.asked (close_all told.closed (empty_state p))
