-- The branches above the pieces with which a round begins, and the states at which these pieces stand.
use Rattle.std.specs.Prelude.{ℕ, ◌+◌, ◌*◌, ◌≡◌, ◌≢◌, ◌≤◌, ◌<◌, Bool, true, List, All, ⊤}
use Rattle.county_codes.specs.Limits.{most_counties}
use Rattle.grouping_laws.specs.Problem.{Problem}
use Rattle.county_problem.specs.OrderedValue.{code_at}
use Rattle.connected_sets.specs.Graphs.{graph_problem, graph_order, graph_places, IsGraph}
use Rattle.certificate_data.specs.Round.{Round}
use Rattle.certificate_data.specs.RoundValue.{round_of}
use Rattle.certificate_laws.specs.State.{State, empty_state, open_to}
use Rattle.state_groups.specs.declared.state.State.{State as StateHeld}
use Rattle.certificate_laws.specs.Groups.{AreGroupsAt}
use Rattle.certificate_laws.specs.Proving.{CanBranch}
use Rattle.checker_laws.specs.Cost.{IsSetCount}
use Rattle.state_groups.specs.PlacedValues.{state_at, codes_of_sets, IsClosable}
use Rattle.state_judge.specs.declared.branch.Branching.{Branching}
use Rattle.board_laws.specs.PartialTrees.{PartialTree, PartialTakes, open_leaves, open_in}
use Rattle.board_laws.specs.Skeleton.{Skeleton, Parts, groups_in}
use Rattle.board_laws.specs.Standing.{StandsAt, StandsIn}
use Rattle.board_laws.specs.Content.{Opens, EachOpens}
use Rattle.share_board.specs.declared.piece.Fate.{Fate}
use Rattle.share_board.specs.declared.piece.Fate.TheVariants.{Waits}
use Rattle.share_board.specs.declared.input.OpeningInput.{OpeningInput}
use Rattle.share_board.specs.declared.stop.OpeningStop.{OpeningStop}
use Rattle.share_board.specs.declared.stop.OpeningStop.TheVariants as stop
use Rattle.share_board.specs.declared.reply.Reply.{Reply as ReplyHeld}
use Rattle.share_board.specs.declared.reply.Reply.TheVariants as held
use Rattle.share_board.specs.HeldSkeleton.{IsFateAt, Shows, PartsShow}
use Rattle.share_board.specs.Replies.{most_opening, IsSmallSet, OpensWithMore, IsBelowOpening}
use Rattle.share_board.specs.BoardValue.{IsPieceState}

-- pieces wait at the places from one on up to another
abbrev pub AllWait : List Fate → ℕ → ℕ → Type 0
AllWait fates first next = (k : ℕ) → first ≤ k → k < next → IsFateAt fates k Waits

-- at a state the round may open with these branches, and with pieces that stand at the places from one on up to the
-- next
pub record IsOpened {C : Type 0} (test : C → ℕ → Bool) (p : Problem) (round : Round) (depth : ℕ) (s : State)
    (tree : PartialTree) (first next : ℕ) (states : List (StateHeld C)) : Type 0 where
  pub skeleton : Skeleton
  pub opens : Opens depth skeleton p round s (first + 1) (next + 1)
  pub places : next ≡ first + open_leaves tree
  pub shows : (fates : List Fate) → AllWait fates first next → Shows fates tree first skeleton
  pub stand : (k : ℕ) (t : State) → StandsAt skeleton round s (k + 1) t → IsPieceState round.order test states k t

-- at the states where each of these groups is closed the round may open with these takes, and with pieces that stand at
-- the places from one on up to the next
pub record AreOpened {C : Type 0} (test : C → ℕ → Bool) (p : Problem) (round : Round) (depth : ℕ) (s : State)
    (groups : List (List ℕ)) (takes : PartialTakes) (first next : ℕ) (states : List (StateHeld C)) : Type 0 where
  pub parts : Parts
  pub groups_are : groups_in parts ≡ groups
  pub opens : EachOpens depth parts p round s (first + 1) (next + 1)
  pub places : next ≡ first + open_in takes
  pub shows : (fates : List Fate) → AllWait fates first next → PartsShow fates takes first parts
  pub stand : (k : ℕ) (t : State) → StandsIn parts round s (k + 1) t → IsPieceState round.order test states k t

-- where each of these groups is closed there are too many pieces, however the round opens there
abbrev pub EachOpensWithMore : Problem → Round → ℕ → State → List (List ℕ) → ℕ → Type 0
EachOpensWithMore p round depth s groups first =
    (parts : Parts) (next : ℕ) → groups_in parts ≡ groups → EachOpens depth parts p round s (first + 1) next
    → most_opening + 1 < next

-- states that are kept stay where they are
abbrev pub StatesAreKept : {C : Type 0} → List ℕ → (C → ℕ → Bool) → List (StateHeld C) → List (StateHeld C) → Type 0
StatesAreKept order test states news =
    (k : ℕ) (t : State) → IsPieceState order test states k t → IsPieceState order test news k t

-- what the opening of a round goes by, and a state of it
abbrev pub board_problem : {C : Type 0} → OpeningInput C → Problem
board_problem g = graph_problem g.graph.now

abbrev pub board_round : {C : Type 0} → OpeningInput C → Round
board_round g = round_of g.round.now

abbrev pub board_state : {C : Type 0} → OpeningInput C → (C → ℕ → Bool) → StateHeld C → State
board_state g test s = state_at (graph_order g.graph.now) test s

-- the county graph is by the round's order
pub record IsOpeningInput {C : Type 0} (places : ℕ) (test : C → ℕ → Bool) (g : OpeningInput C) : Type 0 where
  pub graph : IsGraph test places g.graph.now
  pub order : graph_order g.graph.now ≡ g.round.now.order
  pub small : g.round.now.limit ≤ most_counties

-- no county is open, so that a piece stands here
abbrev pub NoneIsOpen : Round → State → Type 0
NoneIsOpen round s = (c : ℕ) → open_to s round.limit c ≢ true

-- the branch of a plain round at a state
pub record IsBranching {C : Type 0} (test : C → ℕ → Bool) (g : OpeningInput C) (state : StateHeld C)
    (branching : Branching C) : Type 0 where
  pub place : branching.place < graph_places g.graph.now
  pub can : CanBranch (board_round g) (board_state g test state)
      (code_at (graph_order g.graph.now) branching.place) g.round.now.limit
  pub groups : AreGroupsAt (board_problem g) (board_round g) (board_state g test state)
      (code_at (graph_order g.graph.now) branching.place) g.round.now.limit
      (codes_of_sets (graph_order g.graph.now) test branching.groups.items)
  pub closable : All (IsClosable test state) branching.groups.items

-- the share of a branch is below the cost of a line
abbrev pub IsBelowLine : Problem → Round → ℕ → Type 0
IsBelowLine p round share = (m : ℕ) → IsSetCount round.order (IsSmallSet p round) m → share < 3 * (m + 1)

-- why the round isn't opened at a state, where `first` pieces stand before it; and why not where each of these groups
-- is closed
abbrev pub IsHalted : Problem → Round → ℕ → ℕ → State → ℕ → OpeningStop → Type 0
IsHalted p round share depth s first stop.TooManyPieces = OpensWithMore p round depth s first
IsHalted p round share depth s first stop.Budget = (1 ≤ depth) × IsBelowLine p round share
IsHalted p round share depth s first stop.Memory = ⊤

abbrev pub AreHalted : Problem → Round → ℕ → ℕ → State → List (List ℕ) → ℕ → OpeningStop → Type 0
AreHalted p round share depth s groups first stop.TooManyPieces = EachOpensWithMore p round depth s groups first
AreHalted p round share depth s groups first stop.Budget = IsBelowLine p round share
AreHalted p round share depth s groups first stop.Memory = ⊤

-- why a round isn't opened
abbrev pub IsOpeningStop : Problem → ℕ → ℕ → Round → OpeningStop → Type 0
IsOpeningStop p depth budget round stop.TooManyPieces = OpensWithMore p round depth (empty_state p) 0
IsOpeningStop p depth budget round stop.Budget = IsBelowOpening p depth budget round
IsOpeningStop p depth budget round stop.Memory = ⊤

-- what is replied where a round isn't opened
abbrev pub reply_to : {C : Type 0} → OpeningStop → ReplyHeld C
reply_to stop.TooManyPieces = held.TooManyPieces
reply_to stop.Budget = held.Budget
reply_to stop.Memory = held.Memory
