-- What going through a part of a tree gives.
use Rattle.std.specs.Prelude.{ℕ, ◌+◌, ◌≡◌, ◌≤◌, List, ◌++◌, map, length, All, Contains, Result, Ok, Err, ⊤}
use Rattle.county_codes.specs.Limits.{most_counties}
use Rattle.county_codes.specs.declared.group.Grouping.{Grouping as GroupingHeld}
use Rattle.grouping_laws.specs.Problem.{Problem}
use Rattle.grouping_laws.specs.Grouping.{Grouping}
use Rattle.certificate_data.specs.Round.{Round}
use Rattle.certificate_laws.specs.State.{State, IsState}
use Rattle.certificate_data.specs.RoundValue.{round_of, target_of}
use Rattle.certificate_data.specs.Tree.{Tree, Takes, groups_of}
use Rattle.certificate_laws.specs.Fitting.{Fits}
use Rattle.county_problem.specs.ProblemValue.{problem_of}
use Rattle.checker_laws.specs.Lines.{tree_lines, takes_lines}
use Rattle.county_problem.specs.CountList.{count_at}
use Rattle.certificate_laws.specs.Proving.{Proves, EachProves}
use Rattle.certificate_checker.specs.ReadableTrees.{IsReadable, AreReadable}
use Rattle.list_laws.specs.Completeness.{IsComplete, EachIsComplete}
use Rattle.list_laws.specs.Ends.{wanted, ends, ends_in}
use Rattle.list_laws.specs.Listing.{HaveSets}
use Rattle.list_groupings.specs.declared.gap.Gap.{Gap}
use Rattle.list_groupings.specs.declared.walk.WalkInput.{WalkInput}
use Rattle.list_groupings.specs.declared.walk.Found.{Found}
use Rattle.list_groupings.specs.declared.walk.WalkStop.{WalkStop}
use Rattle.list_groupings.specs.declared.walk.WalkStop.TheVariants as stop
use Rattle.list_groupings.specs.declared.position.Position.{Position}
use Rattle.list_groupings.specs.Positions.{IsPosition}
use Rattle.list_groupings.specs.Gaps.{IsFirstGap, IsFirstGapIn}
use Rattle.list_groupings.specs.ListOrder.{IsInOrder}

-- the groups of a grouping of the code's type
abbrev pub sets_held : GroupingHeld → Grouping
sets_held g = g.groups.items

-- lawful groupings in order, which have these sets in turn, stand behind the old ones
pub record HasAdded (p : Problem) (lists : List (List (List ℕ))) (old new : List GroupingHeld) : Type 0 where
  pub more : List GroupingHeld
  pub behind : new ≡ old ++ more
  pub sets : HaveSets p (map sets_held more) lists
  pub in_order : All (λ g. IsInOrder (sets_held g)) more

-- A part of the lines was gone through: it is complete, and its ends were added. Or the walk stopped at its first
-- gap.
abbrev pub HasWalked : Problem → (Complete : Type 0) → (Gaps : Gap → ℕ → Type 0) → (lists : List (List (List ℕ)))
    → (lines : ℕ) → Found → Result (Unit {0}) WalkStop → Found → Type 0
HasWalked p Complete Gaps lists lines old (Ok done) new =
    Complete × (new.line ≡ old.line + lines) × HasAdded p lists old.list.items new.list.items
HasWalked p Complete Gaps lists lines old (Err (stop.Open gap at)) new = Gaps gap at
HasWalked p Complete Gaps lists lines old (Err stop.Memory) new = ⊤

-- the limit is that of a text, and the counts are those of the round's target
pub record IsWalkInput (g : WalkInput) : Type 0 where
  pub small : g.round.now.limit ≤ most_counties
  pub wanted_is : (i : ℕ) → count_at g.wanted.now i ≡ wanted (target_of g.round.now.target) i

-- a tree that proves the round from a state on, and that a text may spell
pub record IsProofAt (p : Problem) (round : Round) (s : State) (tree : Tree) : Type 0 where
  pub state : IsState p round s
  pub proves : Proves tree p round s
  pub readable : IsReadable round.format tree

-- takes of a branch at a state, each of a group that fits, with such trees
pub record AreBranchTakes (p : Problem) (round : Round) (s : State) (takes : Takes) : Type 0 where
  pub state : IsState p round s
  pub fit : (g : List ℕ) → Contains (groups_of takes) g → Fits round.format p s g × (length g ≤ round.limit)
  pub proves : EachProves takes p round s
  pub readable : AreReadable round.format takes

-- the tree stands at the position
abbrev pub IsTreeAt : WalkInput → State → Position → Tree → Type 0
IsTreeAt g s position tree =
    IsPosition (problem_of g.problem.now) s position
    × IsProofAt (problem_of g.problem.now) (round_of g.round.now) s tree

-- the takes stand at the position
abbrev pub AreAt : WalkInput → State → Position → Takes → Type 0
AreAt g s position takes =
    IsPosition (problem_of g.problem.now) s position
    × AreBranchTakes (problem_of g.problem.now) (round_of g.round.now) s takes

-- a tree was gone through from a state on
abbrev pub WalksTree : WalkInput → State → Tree → Found → Result (Unit {0}) WalkStop → Found → Type 0
WalksTree g s tree old result new =
    HasWalked (problem_of g.problem.now) (IsComplete tree (problem_of g.problem.now) (round_of g.round.now) s)
    (IsFirstGap tree (problem_of g.problem.now) (round_of g.round.now) s old.line)
    (ends tree (problem_of g.problem.now) (round_of g.round.now) s) (tree_lines tree) old result new

-- takes were gone through, and the mark behind them
abbrev pub WalksTakes : WalkInput → State → Takes → Found → Result (Unit {0}) WalkStop → Found → Type 0
WalksTakes g s takes old result new =
    HasWalked (problem_of g.problem.now) (EachIsComplete takes (problem_of g.problem.now) (round_of g.round.now) s)
    (IsFirstGapIn takes (problem_of g.problem.now) (round_of g.round.now) s old.line)
    (ends_in takes (problem_of g.problem.now) (round_of g.round.now) s) (takes_lines takes) old result new
