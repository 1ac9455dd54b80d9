-- Which states that are told are states of a round.
use Rattle.std.specs.Prelude.{ℕ, ◌-◌, ◌≡◌, ◌≤◌, true, List, [], ◌∷◌, filter, length, ⊤}
use Rattle.grouping_laws.specs.Sets.{contains}
use Rattle.grouping_laws.specs.Problem.{Problem}
use Rattle.certificate_data.specs.Round.{Round}
use Rattle.certificate_laws.specs.State.{State, IsLeastSize, empty_state, close, raise}
use Rattle.certificate_laws.specs.Fitting.{Fits}
use Rattle.piece_states.specs.Told.{Asked, Told, close_all}

-- the group may be closed: it fits, its codes stand in the order, and it has at most the round's limit of counties
pub record CanClose (p : Problem) (order : List ℕ) (round : Round) (s : State) (g : List ℕ) : Type 0 where
  pub fits : Fits round.format p s g
  pub in_order : filter (contains g) order ≡ g
  pub small : length g ≤ round.limit

-- the county may ask: it is in the rest, and its size isn't 0 and is one of the round's least sizes
pub record CanAsk (round : Round) (s : State) (asked : Asked) : Type 0 where
  pub rest : s.rest asked.county ≡ true
  pub some : 1 ≤ asked.size
  pub size : IsLeastSize round.format round.limit asked.size

-- each group may be closed where those before it are closed
abbrev pub EachCanClose : Problem → List ℕ → Round → List (List ℕ) → State → Type 0
EachCanClose p order round [] s = ⊤
EachCanClose p order round (g ∷ gs) s = CanClose p order round s g × EachCanClose p order round gs (close g s)

-- each county may ask where those before it are raised
abbrev pub EachCanAsk : Round → List Asked → State → Type 0
EachCanAsk round [] s = ⊤
EachCanAsk round (a ∷ more) s = CanAsk round s a × EachCanAsk round more (raise a.county (a.size - 1) s)

-- the state that is told is one of the round: the groups may be closed, and then the counties may ask
pub record IsTold (p : Problem) (order : List ℕ) (round : Round) (told : Told) : Type 0 where
  pub closed : EachCanClose p order round told.closed (empty_state p)
  pub asked : EachCanAsk round told.asked (close_all told.closed (empty_state p))
