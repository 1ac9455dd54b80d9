-- How the closed groups of a state stand to the counts of the target, and that no small group fits.
use Rattle.std.specs.Prelude.{ℕ, ◌≡◌, ◌≤◌, ◌<◌, List, length, Some}
use Rattle.grouping_laws.specs.Problem.{Problem}
use Rattle.grouping_laws.specs.Grouping.{Grouping, counts, sets_of}
use Rattle.certificate_data.specs.Round.{Round}
use Rattle.certificate_laws.specs.State.{State}
use Rattle.certificate_laws.specs.Fitting.{Fits}

-- of the sizes from 1 through n there are as many closed groups as are wanted
abbrev pub IsLevel : (ℕ → ℕ) → State → ℕ → Type 0
IsLevel wanted s n = (i : ℕ) → 1 ≤ i → i ≤ n → counts s.closed i ≡ wanted i

-- at the first size at which they differ, one up to the limit, there are more
pub record IsAhead (wanted : ℕ → ℕ) (s : State) (limit : ℕ) : Type 0 where
  pub size : ℕ
  pub some : 1 ≤ size
  pub small : size ≤ limit
  pub level : (i : ℕ) → 1 ≤ i → i < size → counts s.closed i ≡ wanted i
  pub more : wanted size < counts s.closed size

-- the closed groups are ahead of the target; without a target there is none to be ahead of
abbrev pub StandsAhead : Round → State → Type 0
StandsAhead round s = (t : Grouping) → round.target ≡ Some t → IsAhead (counts (sets_of t)) s round.limit

-- no group of at most `n` counties fits
abbrev pub NoneUpTo : Problem → Round → State → ℕ → Type 0
NoneUpTo p round s n = (g : List ℕ) → Fits round.format p s g → length g ≤ n → ⊥
