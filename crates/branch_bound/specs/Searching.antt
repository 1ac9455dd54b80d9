-- What a search by branch and bound keeps at a state, and what it answers.
use Rattle.std.specs.Prelude.{ℕ, ◌+◌, ◌≡◌, ◌<◌, Bool, List, ◌∷◌, filter, length, All, AllPairs, Option, MatchOption, ⊤}
use Rattle.std.specs.List.{AllByRecursion}
use Rattle.county_codes.specs.declared.group.Grouping.{Grouping as GroupingHeld}
use Rattle.grouping_laws.specs.Sets.{contains}
use Rattle.grouping_laws.specs.Problem.{Problem}
use Rattle.grouping_laws.specs.Grouping.{Grouping, sets_of}
use Rattle.grouping_laws.specs.GroupsFrom.{IsBefore}
use Rattle.connected_laws.specs.Listing.{AreBelow}
use Rattle.certificate_data.specs.Round.{Round}
use Rattle.certificate_laws.specs.State.{State, close}
use Rattle.certificate_laws.specs.Groups.{AreGroupsAt, AreGroupsOf}
use Rattle.certificate_laws.specs.Leaves.{IsStuck, IsOffSeats}
use Rattle.certificate_data.specs.Tree.{groups_of, take, Tree as TreeValue, Takes as TakesValue}
use Rattle.certificate_laws.specs.Proving.{Proves, EachProves}
use Rattle.certificate_laws.specs.Certificate.{TargetFits}
use Rattle.certificate_laws.specs.Search.{IsFound}
use Rattle.list_laws.specs.Completeness.{IsCompleteLeaf, IsComplete, EachIsComplete}
use Rattle.certificate_data.specs.declared.tree.Leaf.{Leaf}
use Rattle.certificate_data.specs.declared.tree.Tree.{Tree}
use Rattle.certificate_data.specs.declared.tree.Take.{Take}
use Rattle.certificate_data.specs.TreeValue.{leaf_of, tree_of, take_onto, list_of_takes}
use Rattle.certificate_text.specs.Trees.{items_of_takes, items_of_tree}
use Rattle.certificate_lines.specs.declared.item.Item.TheVariants as item
use Rattle.state_groups.specs.PlacedValues.{codes_of_sets}
use Rattle.certificate_text.specs.TreeItems.{FitsInTree, HasLines, HasTargetLines}
use Rattle.search_ends.specs.GivenLeaf.{IsGivenLeaf}
use Rattle.partial_trees.specs.PartialValue.{partial_of}
use Rattle.branch_bound.specs.Parts.{IsOpenPart}
use Rattle.search_groups.specs.declared.input.SearchInput.{SearchInput}
pub use Rattle.search_groups.specs.Positions.{search_problem, search_round, search_state, IsSearchInput, IsLargerAt, IsPositionAt, IsChoice}
use Rattle.branch_bound.specs.declared.outcome.SearchOutcome.{SearchOutcome}
use Rattle.branch_bound.specs.declared.outcome.SearchOutcome.TheVariants as outcome
use Rattle.branch_bound.specs.declared.outcome.Move.{Move}
use Rattle.branch_bound.specs.declared.outcome.Move.TheVariants as next_move
use Rattle.branch_bound.specs.declared.outcome.Next.{Next}
use Rattle.branch_bound.specs.declared.outcome.Next.TheVariants as next
use Rattle.branch_bound.specs.declared.outcome.Taken.{Taken}
use Rattle.branch_bound.specs.declared.outcome.Taken.TheVariants as taken
use Rattle.branch_bound.specs.declared.outcome.Takes.{Takes}
use Rattle.branch_bound.specs.declared.outcome.Takes.TheVariants as takes

-- the groups stand by size and then by places, and the codes of each in the order of places
pub record IsSorted (order : List ℕ) (g : Grouping) : Type 0 where
  pub in_turn : AllPairs (IsBefore order) (sets_of g)
  pub in_order : All (λ m. filter (contains m.codes) order ≡ m.codes) g

-- A leaf that is valid, its numbers in the ranges of its lines. It is complete if the target fits the limit.
abbrev pub IsEnd : Problem → Round → State → Leaf → Type 0
IsEnd p round s leaf =
    IsGivenLeaf p round s leaf × (TargetFits p round.limit round.target → IsCompleteLeaf (leaf_of leaf) p round s)

-- a leaf that a state ends with, or none, and then neither a stuck leaf nor the seats leaf is valid
abbrev pub IsEarlyEnd : {C : Type 0} → SearchInput C → State → Option Leaf → Type 0
IsEarlyEnd g s found =
    MatchOption found (((c : ℕ) → ¬ IsStuck (search_problem g) s c) × ¬ IsOffSeats (search_problem g) s)
    (IsEnd (search_problem g) (search_round g) s)

-- A proof tree, its numbers in the ranges of its lines. It is complete if the target fits the limit.
abbrev pub IsProof : Problem → Round → State → Tree → Type 0
IsProof p round s tree =
    Proves (tree_of tree) p round s × HasLines round.format (tree_of tree)
    × (TargetFits p round.limit round.target → IsComplete (tree_of tree) p round s)

-- a lawful grouping that agrees with the state and is greater than the target, sorted
pub record IsBetter (p : Problem) (round : Round) (s : State) (g : GroupingHeld) : Type 0 where
  pub found : IsFound p round s g.groups.items
  pub sorted : IsSorted round.order g.groups.items
  pub lines : HasTargetLines g.groups.items

abbrev pub IsOutcome : Problem → Round → State → SearchOutcome → Type 0
IsOutcome p round s (outcome.Proved tree) = IsProof p round s tree
IsOutcome p round s (outcome.Better g) = IsBetter p round s g
IsOutcome p round s (outcome.Open part) = IsOpenPart p round s (partial_of part)

-- the steps ran out at the state
abbrev pub IsStopped : SearchOutcome → Type 0
IsStopped (outcome.Proved tree) = ⊥
IsStopped (outcome.Better g) = ⊥
IsStopped (outcome.Open part) = ⊤

-- a take of the group, with its proof tree
pub record IsTakeOf (p : Problem) (round : Round) (s : State) (group : List ℕ) (t : Take) : Type 0 where
  pub tree : TreeValue
  pub is : (others : TakesValue) → take_onto t others ≡ take group tree others
  pub proves : Proves tree p round (close group s)
  pub lines : AllByRecursion (FitsInTree round.format) (item.Takes group ∷ items_of_tree tree)
  pub complete : TargetFits p round.limit round.target → IsComplete tree p round (close group s)

abbrev pub IsTakenGroup : Problem → Round → State → List ℕ → Taken → Type 0
IsTakenGroup p round s group (taken.Proved t) = IsTakeOf p round s group t
IsTakenGroup p round s group (taken.Better g) = IsBetter p round s g
IsTakenGroup p round s group (taken.Open part) = IsOpenPart p round (close group s) (partial_of part)

-- the steps ran out in the take
abbrev pub IsTakeStopped : Taken → Type 0
IsTakeStopped (taken.Proved t) = ⊥
IsTakeStopped (taken.Better g) = ⊥
IsTakeStopped (taken.Open part) = ⊤

-- takes of these groups, each with its proof tree
pub record AreTakesOf (p : Problem) (round : Round) (s : State) (groups : List (List ℕ))
    (list : List Take) : Type 0 where
  pub groups_are : groups_of (list_of_takes list) ≡ groups
  pub each : EachProves (list_of_takes list) p round s
  pub lines : AllByRecursion (FitsInTree round.format) (items_of_takes (list_of_takes list))
  pub complete : TargetFits p round.limit round.target → EachIsComplete (list_of_takes list) p round s

-- All takes of a branch, each with its proof tree. Where the steps ran out, it is a partial tree of the state.
abbrev pub AreTakesAt : Problem → Round → State → ℕ → ℕ → Takes → Type 0
AreTakesAt p round s county limit (takes.Proved list) =
    (groups : List (List ℕ)) × AreGroupsAt p round s county limit groups × AreTakesOf p round s groups list.items
AreTakesAt p round s county limit (takes.Better g) = IsBetter p round s g
AreTakesAt p round s county limit (takes.Open part) = IsOpenPart p round s (partial_of part)

-- the steps ran out before all takes were proved
abbrev pub AreTakesStopped : Takes → Type 0
AreTakesStopped (takes.Proved list) = ⊥
AreTakesStopped (takes.Better g) = ⊥
AreTakesStopped (takes.Open part) = ⊤

-- a leaf that is valid, a grouping that is better, or a county to branch at
abbrev pub IsNextMove : {C : Type 0} → (C → ℕ → Bool) → SearchInput C → State → Move C → Type 0
IsNextMove test g s (next_move.Leaf leaf) = IsEnd (search_problem g) (search_round g) s leaf
IsNextMove test g s (next_move.Better found) = IsBetter (search_problem g) (search_round g) s found
IsNextMove test g s (next_move.Branch place at) =
    IsPositionAt test g s at × IsChoice test g.graph.now.ordered.now.order at.groups.items place

-- where no group of at most `size` counties fits: a leaf that is valid, a grouping that is better, or the groups of
-- one county more
abbrev pub IsNextSize : {C : Type 0} → (C → ℕ → Bool) → SearchInput C → State → ℕ → Next C → Type 0
IsNextSize test g s size (next.Leaf leaf) = IsEnd (search_problem g) (search_round g) s leaf
IsNextSize test g s size (next.Better found) = IsBetter (search_problem g) (search_round g) s found
IsNextSize test g s size (next.Groups groups) =
    (size < g.round.now.limit)
    × AreBelow (length g.graph.now.ordered.now.order) test groups.items
    × AreGroupsOf (search_problem g) (search_round g) s (size + 1)
    (codes_of_sets g.graph.now.ordered.now.order test groups.items)
