-- How a piece that waits is split, at a county or by a part, and why it isn't.
use Rattle.std.specs.Prelude.{ℕ, ◌+◌, ◌*◌, ◌≡◌, ◌≤◌, ◌<◌, ◌⊎◌, Bool, List, [], length, get_or}
use Rattle.grouping_laws.specs.Problem.{Problem}
use Rattle.county_problem.specs.ProblemValue.{problem_of}
use Rattle.county_problem.specs.declared.problem.Problem.{Problem as ProblemHeld}
use Rattle.certificate_data.specs.Round.{Round}
use Rattle.certificate_data.specs.declared.format.Format.TheVariants.{Wide}
use Rattle.certificate_laws.specs.State.{State, empty_state, close, raise}
use Rattle.certificate_laws.specs.Groups.{AreGroupsAt, IsSetAt}
use Rattle.certificate_laws.specs.Proving.{CanBranch}
use Rattle.checker_laws.specs.Cost.{IsSetCount}
use Rattle.state_groups.specs.declared.state.State.{State as StateHeld}
use Rattle.state_judge.specs.declared.fault.LineStop.{LineStop}
use Rattle.state_judge.specs.declared.fault.LineStop.TheVariants as stop
use Rattle.board_laws.specs.PartialTrees.{PartialTree, IsPart, open_leaves}
use Rattle.board_laws.specs.PartCost.{PartCosts}
use Rattle.board_laws.specs.Standing.{StandsAt}
use Rattle.board_laws.specs.Content.{Content, Reply, Splits, Parted}
use Rattle.board_laws.specs.Content as reply
use Rattle.partial_trees.specs.OpenStates.{open_states}
use Rattle.partial_trees.specs.Refusals.{IsPartProof}
use Rattle.partial_trees.specs.declared.stop.PartStop.{PartStop}
use Rattle.partial_trees.specs.declared.stop.PartStop.TheVariants as part_stop
use Rattle.share_board.specs.declared.board.Board.{Board}
use Rattle.share_board.specs.declared.reply.Reply.{Reply as ReplyHeld}
use Rattle.share_board.specs.declared.reply.Reply.TheVariants as held
use Rattle.share_board.specs.declared.splitting.Pieces.{Pieces}
use Rattle.share_board.specs.Replies.{CanSplit}
use Rattle.share_board.specs.BoardValue.{IsOf, IsPieceState}

-- what a piece at this state is split into at a county: a state where each group is closed, and one where the county is
-- raised
pub record ArePieces {C : Type 0} (order : List ℕ) (test : C → ℕ → Bool) (s : State) (county limit : ℕ)
    (pieces : Pieces C) : Type 0 where
  pub count : length pieces.states.items ≡ length pieces.groups.items + 1
  pub closed : (j : ℕ) → j < length pieces.groups.items
      → IsPieceState order test pieces.states.items j (close (get_or pieces.groups.items j []) s)
  pub raised : IsPieceState order test pieces.states.items (length pieces.groups.items) (raise county limit s)

-- the piece at the place may be split so, and these are its pieces
pub record MaySplit {C : Type 0} (test : C → ℕ → Bool) (board : Board C) (b : Content) (at county limit : ℕ)
    (pieces : Pieces C) (s : State) : Type 0 where
  pub stands : StandsAt b.skeleton b.round (empty_state (problem_of board.problem)) (at + 1) s
  pub wide : b.round.format ≡ Wide
  pub some : 1 ≤ limit
  pub can : CanBranch b.round s county limit
  pub groups : AreGroupsAt (problem_of board.problem) b.round s county limit pieces.groups.items
  pub pieces_are : ArePieces board.round.order test s county limit pieces

-- the board stands for a content in which the piece at the place was split
abbrev pub HasSplit : {C : Type 0} → (C → ℕ → Bool) → ProblemHeld → Content → (at county limit first many : ℕ) → Board C
    → Type 0
HasSplit test problem b at county limit first many board =
    (c : Content) × Splits (problem_of problem) b (at + 1) county limit first many c × IsOf test board c

-- The piece at the place may be given this part: it stands at this state, texts spell the part, and it proves the state
-- but for its open leaves. The states are those at its open leaves.
pub record MayPart {C : Type 0} (test : C → ℕ → Bool) (board : Board C) (b : Content) (at : ℕ) (tree : PartialTree)
    (states : List (StateHeld C)) (s : State) : Type 0 where
  pub stands : StandsAt b.skeleton b.round (empty_state (problem_of board.problem)) (at + 1) s
  pub is_part : IsPart tree
  pub proves : IsPartProof (problem_of board.problem) b.round s tree
  pub states_are : (k : ℕ) (t : State) → k < open_leaves tree
      → ((other : State) → get_or (open_states tree b.round s) k other ≡ t)
      → IsPieceState board.round.order test states k t

-- the board stands for a content in which the piece at the place was given the part
abbrev pub HasParted : {C : Type 0} → (C → ℕ → Bool) → ProblemHeld → Content → ℕ → PartialTree → (first many : ℕ) → Board C
    → Type 0
HasParted test problem b at tree first many board =
    (c : Content) × Parted (problem_of problem) b (at + 1) tree first many c × IsOf test board c

-- why a piece that waits at the state isn't split at a county
abbrev pub IsSplitRefusal : Problem → ℕ → Round → State → ℕ → ℕ → Reply → Type 0
IsSplitRefusal p budget round s county limit answer =
    ((answer ≡ reply.CantSplit) × (¬ CanSplit round s county limit))
    ⊎ (((answer ≡ reply.Budget) × CanSplit round s county limit
    × ((m : ℕ) → IsSetCount round.order (IsSetAt p round.order s county limit) m → budget < 3 * (m + 1)))
    ⊎ (answer ≡ reply.Memory))

-- why a piece that waits at the state isn't given a part
abbrev pub IsRefusedPart : Problem → ℕ → Round → State → PartialTree → Reply → Type 0
IsRefusedPart p budget round s tree answer =
    ((answer ≡ reply.NotAProof) × (¬ IsPartProof p round s tree))
    ⊎ (((answer ≡ reply.Budget) × ((cost : ℕ) → PartCosts tree p round s cost → budget < cost))
    ⊎ (answer ≡ reply.Memory))

-- what is replied where the judging of a branch stopped
abbrev pub refusal_of : {C : Type 0} → LineStop → ReplyHeld C
refusal_of stop.StepLimit = held.Budget
refusal_of stop.Memory = held.Memory
refusal_of (stop.Fault fault) = held.CantSplit
refusal_of stop.Unspelled = held.CantSplit

-- what is replied where the judging of a part stopped
abbrev pub part_refusal_of : {C : Type 0} → PartStop → ReplyHeld C
part_refusal_of part_stop.NotAProof = held.NotAProof
part_refusal_of part_stop.Budget = held.Budget
part_refusal_of part_stop.Memory = held.Memory
