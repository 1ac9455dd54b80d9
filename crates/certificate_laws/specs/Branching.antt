-- What a branch does to a state.
use Rattle.std.specs.Prelude.{ℕ, ◌+◌, ◌-◌, ◌*◌, ◌≡◌, ◌≤◌, ◌<◌, true, List, length, ◌⊎◌}
use Rattle.grouping_laws.specs.Sets.{sum_by}
use Rattle.grouping_laws.specs.Problem.{Problem, IsProblem}
use Rattle.grouping_laws.specs.Grouping.{Grouping, Lawful}
use Rattle.grouping_laws.specs.GroupsFrom.{IsOrder}
use Rattle.certificate_data.specs.declared.format.Format.{Format}
use Rattle.certificate_data.specs.declared.format.Format.TheVariants.{Plain}
use Rattle.certificate_data.specs.Round.{Round}
use Rattle.certificate_laws.specs.Regions.{listed}
use Rattle.certificate_laws.specs.State.{State, IsState, open_to, close, raise, empty_state}
use Rattle.certificate_laws.specs.Agreement.{Agrees}
use Rattle.certificate_laws.specs.Fitting.{Fits}
use Rattle.certificate_laws.specs.Proving.{CanBranch}
use Rattle.certificate_laws.specs.Groups.{IsGroupAt}

-- how far the least sizes of the rest are from one more than the limit, added up
abbrev pub steps_left : Problem → ℕ → State → ℕ
steps_left p limit s = sum_by (λ c. limit + 1 - s.least c) (listed p s.rest)

-- how many counties may lie in a group of at most the limit
abbrev pub turns_left : Problem → ℕ → State → ℕ
turns_left p limit s = length (listed p (open_to s limit))

-- each group that fits the second state fits the first
abbrev pub Narrows : Format → Problem → State → State → Type 0
Narrows format p s t = (g : List ℕ) → Fits format p t g → Fits format p s g

-- Closing a group and raising a county give states again, with less left and no other groups that fit; the groupings
-- that agree with the old state are those that agree with one of the new ones.
pub record BranchKeepsState : Type 0 where
  -- a search begins at a state with which every lawful grouping agrees
  pub first_state : (p : Problem) (round : Round) → IsState p round (empty_state p)
  pub first_agrees : (p : Problem) (g : Grouping) → Lawful p g → Agrees (empty_state p) g
  -- closing and raising lead from state to state
  pub closed_state : (p : Problem) (round : Round) (s : State) (g : List ℕ) → IsState p round s
      → Fits round.format p s g → length g ≤ round.limit → IsState p round (close g s)
  pub raised_state : (p : Problem) (round : Round) (s : State) (c j : ℕ) → IsState p round s → CanBranch round s c j
      → IsState p round (raise c j s)
  -- what agrees with the new state agrees with the old one, and what agrees with the old one agrees with a new one
  pub closed_agrees : (format : Format) (p : Problem) (s : State) (k : List ℕ) (g : Grouping) → Fits format p s k
      → Agrees (close k s) g → Agrees s g
  pub raised_agrees : (s : State) (c j : ℕ) (g : Grouping) → s.least c ≤ j + 1 → Agrees (raise c j s) g → Agrees s g
  pub some_agrees : (p : Problem) (round : Round) (s : State) (c j : ℕ) (g : Grouping) → IsOrder p round.order
      → IsState p round s → open_to s j c ≡ true → Lawful p g → Agrees s g
      → ((k : List ℕ) × IsGroupAt p round s c j k × Agrees (close k s) g) ⊎ Agrees (raise c j s) g
  -- a group that doesn't fit never fits again
  pub closed_narrows : (p : Problem) (round : Round) (s : State) (k : List ℕ) → IsProblem p → IsState p round s
      → Fits round.format p s k → Narrows round.format p s (close k s)
  pub raised_narrows : (format : Format) (p : Problem) (s : State) (c j : ℕ) → s.least c ≤ j + 1
      → Narrows format p s (raise c j s)
  -- fewer steps are left, so no path of a tree has more branches than this
  pub closed_fewer : (p : Problem) (round : Round) (s : State) (c j : ℕ) (g : List ℕ) → CanBranch round s c j
      → IsGroupAt p round s c j g → steps_left p round.limit (close g s) < steps_left p round.limit s
  pub raised_fewer : (p : Problem) (round : Round) (s : State) (c j : ℕ) → IsState p round s → CanBranch round s c j
      → steps_left p round.limit (raise c j s) < steps_left p round.limit s
  pub few_steps : (p : Problem) (limit : ℕ) (s : State) → steps_left p limit s ≤ length p.counties * (limit + 1)
  -- in a plain round fewer turns are left, so no path has more branches than there are counties
  pub closed_turns : (p : Problem) (round : Round) (s : State) (c j : ℕ) (g : List ℕ) → CanBranch round s c j
      → IsGroupAt p round s c j g → turns_left p round.limit (close g s) < turns_left p round.limit s
  pub raised_turns : (p : Problem) (round : Round) (s : State) (c j : ℕ) → round.format ≡ Plain → IsState p round s
      → CanBranch round s c j → turns_left p round.limit (raise c j s) < turns_left p round.limit s
  pub few_turns : (p : Problem) (limit : ℕ) (s : State) → turns_left p limit s ≤ length p.counties
