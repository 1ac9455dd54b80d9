-- Laws of opening rounds: that a round opens, and with how many pieces.
use Rattle.std.specs.Prelude.{ℕ, ◌+◌, ◌≡◌, ◌≤◌, ◌<◌, ◌⊎◌}
use Rattle.grouping_laws.specs.Problem.{Problem, IsProblem}
use Rattle.grouping_laws.specs.Grouping.{Grouping}
use Rattle.grouping_laws.specs.GroupsFrom.{IsOrder}
use Rattle.certificate_data.specs.declared.format.Format.TheVariants.{Plain}
use Rattle.certificate_data.specs.Round.{Round}
use Rattle.certificate_laws.specs.State.{State, IsState}
use Rattle.board_laws.specs.Skeleton.{Skeleton}
use Rattle.board_laws.specs.Content.{Content, Opens}
use Rattle.share_board.specs.Replies.{most_opening, OpensWithMore}
use Rattle.share_board.specs.Rounds.{MayBegin, IsOpening}

-- the depths to which a round may open: a plain one to each, a wide one to 0
abbrev pub GoesTo : Round → ℕ → Type 0
GoesTo round depth = (round.format ≡ Plain) ⊎ (depth ≡ 0)

-- at a state the round opens, its pieces numbered from one on up to the next
pub record AnOpening (p : Problem) (round : Round) (depth : ℕ) (s : State) (first : ℕ) : Type 0 where
  pub skeleton : Skeleton
  pub next : ℕ
  pub opens : Opens depth skeleton p round s first next

-- Openings at the states of a round.
pub record RoundsOpen : Type 0 where
  -- there is an opening at each state
  pub some : (p : Problem) (round : Round) (depth : ℕ) (s : State) (first : ℕ) → IsProblem p → IsOrder p round.order
      → GoesTo round depth
      → IsState p round s → AnOpening p round depth s first
  -- there is one opening alone: two at a state have the same branches, with the same numbers
  pub one : (p : Problem) (round : Round) (depth : ℕ) (s : State) (first : ℕ) → GoesTo round depth
      → (a b : AnOpening p round depth s first)
      → (a.skeleton ≡ b.skeleton) × (a.next ≡ b.next)
  -- an opening has no more pieces than a round may begin with, or each has more
  pub either : (p : Problem) (round : Round) (depth : ℕ) (s : State) (first : ℕ) → IsProblem p → IsOrder p round.order
      → GoesTo round depth
      → IsState p round s
      → ((a : AnOpening p round depth s (first + 1)) × (a.next ≤ most_opening + 1))
      ⊎ OpensWithMore p round depth s first
  -- if each opening at a state has too many pieces, there is an opening with too many pieces
  pub more : (p : Problem) (round : Round) (depth : ℕ) (s : State) (first : ℕ) → IsProblem p → IsOrder p round.order
      → GoesTo round depth
      → IsState p round s
      → OpensWithMore p round depth s first → (a : AnOpening p round depth s (first + 1)) × (most_opening + 1 < a.next)
  -- where a board may begin there is a content to begin with
  pub begins : (p : Problem) (depth : ℕ) (target : Grouping) (round : Round) → IsProblem p
      → MayBegin p depth target round
      → (b : Content) × IsOpening p depth round b
