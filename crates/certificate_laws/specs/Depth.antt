-- How deep proof trees are.
use Rattle.std.specs.Prelude.{ℕ, ◌+◌, ◌-◌, ◌*◌, ◌≡◌, ◌≤◌, length, max, ⊤}
use Rattle.grouping_laws.specs.Problem.{Problem}
use Rattle.grouping_laws.specs.GroupsFrom.{IsOrder}
pub use Rattle.certificate_data.specs.Levels.{after_raise}
use Rattle.certificate_data.specs.declared.format.Format.{Format}
use Rattle.certificate_data.specs.declared.format.Format.TheVariants.{Plain}
use Rattle.certificate_data.specs.Round.{Round}
use Rattle.certificate_laws.specs.State.{State, IsState}
use Rattle.certificate_data.specs.Tree.{Tree, leaf, branch, Takes, no_take, take}
use Rattle.certificate_laws.specs.Proving.{Proves, limit_of}
use Rattle.certificate_laws.specs.Branching.{steps_left}

-- the depth of each branch is below n: in a wide text how many takes it stands in, in a plain one how many branches
abbrev mutual
  pub IsWithin : Format → ℕ → Tree → Type 0
  IsWithin format n (leaf l) = ⊤
  IsWithin format n (branch county limit takes raised) =
      (1 ≤ n) × EachWithin format (n - 1) takes × IsWithin format (after_raise format n) raised

  pub EachWithin : Format → ℕ → Takes → Type 0
  EachWithin format n no_take = ⊤
  EachWithin format n (take codes tree others) = IsWithin format n tree × EachWithin format n others

-- the most branches on a path
abbrev mutual
  pub branches_on : Tree → ℕ
  branches_on (leaf l) = 0
  branches_on (branch county limit takes raised) = 1 + max (branches_in takes) (branches_on raised)

  pub branches_in : Takes → ℕ
  branches_in no_take = 0
  branches_in (take codes tree others) = max (branches_on tree) (branches_in others)

-- the limit of each branch is at least 1
abbrev mutual
  pub HasLimits : Round → Tree → Type 0
  HasLimits round (leaf l) = ⊤
  HasLimits round (branch county limit takes raised) =
      (1 ≤ limit_of round limit) × EachHasLimits round takes × HasLimits round raised

  pub EachHasLimits : Round → Takes → Type 0
  EachHasLimits round no_take = ⊤
  EachHasLimits round (take codes tree others) = HasLimits round tree × EachHasLimits round others

-- Each proof tree keeps the depth of its format, and no path of it has more branches than there are steps left, in a
-- plain round than there are counties.
pub record TreesAreShallow : Type 0 where
  pub within : (p : Problem) (round : Round) (s : State) (tree : Tree) → IsOrder p round.order → IsState p round s
      → Proves tree p round s → IsWithin round.format (length round.order) tree
  pub few_branches : (p : Problem) (round : Round) (s : State) (tree : Tree) → IsState p round s → Proves tree p round s
      → branches_on tree ≤ steps_left p round.limit s
  pub few_in_order : (p : Problem) (round : Round) (s : State) (tree : Tree) → round.format ≡ Plain
      → IsOrder p round.order → IsState p round s → Proves tree p round s → branches_on tree ≤ length round.order
  pub few_with_limits : (p : Problem) (round : Round) (s : State) (tree : Tree) → IsState p round s
      → Proves tree p round s → HasLimits round tree → branches_on tree ≤ length p.counties * round.limit
