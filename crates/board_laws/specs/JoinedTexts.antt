-- Laws of joined certificates: what is joined depends on the events that came, and not on their order.
use Rattle.std.specs.Prelude.{ℕ, ◌≡◌, List, Some, ◌↔◌}
use Rattle.grouping_laws.specs.Problem.{Problem}
use Rattle.grouping_laws.specs.Tolerance.{named_tolerance}
use Rattle.grouping_laws.specs.GroupsFrom.{IsOrder}
use Rattle.grouping_laws.specs.Grouping.{Grouping}
use Rattle.certificate_laws.specs.State.{State, empty_state}
use Rattle.certificate_data.specs.Tree.{Tree}
use Rattle.certificate_laws.specs.Certificate.{TargetFits}
use Rattle.certificate_text.specs.Spelling.{IsSpelling}
use Rattle.board_laws.specs.Skeleton.{joined}
use Rattle.board_laws.specs.Standing.{Held, Holds}
use Rattle.board_laws.specs.Content.{Content, Begins, EventAndReply, LeadsOver}

-- a board begins with the tolerance that a certificate for the problem names and with a target that fits, and the
-- events with their replies lead from there to this content
pub record IsReached (p : Problem) (log : List EventAndReply) (content : Content) : Type 0 where
  pub depth : ℕ
  pub first : Content
  pub tolerance : first.round.tolerance ≡ named_tolerance p
  pub order : IsOrder p first.round.order
  pub target : Grouping
  pub target_is : first.round.target ≡ Some target
  pub fits : TargetFits p first.round.limit first.round.target
  pub begins : Begins p depth first
  pub leads : LeadsOver p depth first log content

-- two boards of one round hold the same splits and trees, each at the same states
pub record HoldTheSame (p : Problem) (one other : Content) : Type 0 where
  pub round : one.round ≡ other.round
  pub same : (s : State) (held : Held) → Holds one.skeleton one.round (empty_state p) s held
      ↔ Holds other.skeleton other.round (empty_state p) s held

-- the content's pieces join to a tree, and this is the text of its certificate
pub record JoinsTo (content : Content) (text : List ℕ) : Type 0 where
  pub tree : Tree
  pub tree_is : joined content.skeleton ≡ Some tree
  pub spelled : IsSpelling text (record { round = content.round; tree = tree })

-- If two lists of events lead to boards that hold the same, what one joins the other joins, byte for byte.
pub record JoinedTextsAreOne : Type 0 where
  -- the text of the one is the text of the other
  pub same : (p : Problem) (log more : List EventAndReply) (one other : Content) (text again : List ℕ)
      → IsReached p log one → IsReached p more other
      → HoldTheSame p one other → JoinsTo one text → JoinsTo other again → text ≡ again
  -- if the one has a text, the other has it
  pub too : (p : Problem) (log more : List EventAndReply) (one other : Content) (text : List ℕ) → IsReached p log one
      → IsReached p more other
      → HoldTheSame p one other → JoinsTo one text → JoinsTo other text
