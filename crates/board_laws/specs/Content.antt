-- What a board holds, and what each event with its reply does to it.
use Rattle.std.specs.Prelude.{ℕ, ◌+◌, ◌-◌, ◌≡◌, ◌≢◌, ◌≤◌, ◌<◌, true, List, [], ◌∷◌, length, Contains, Some, None}
use Rattle.std.specs.Prelude.{◌⊎◌}
use Rattle.grouping_laws.specs.Problem.{Problem}
use Rattle.grouping_laws.specs.Grouping.{Grouping, Lawful, counts, sets_of, IsGreater}
use Rattle.grouping_laws.specs.Tolerance.{named_tolerance}
use Rattle.grouping_laws.specs.GroupsFrom.{IsOrder}
use Rattle.certificate_data.specs.declared.format.Format.TheVariants.{Wide}
use Rattle.certificate_data.specs.Round.{Round}
use Rattle.certificate_laws.specs.State.{State, empty_state, open_to, close, raise}
use Rattle.certificate_laws.specs.Groups.{AreGroupsAt}
use Rattle.certificate_data.specs.Tree.{Tree}
use Rattle.certificate_laws.specs.Proving.{Proves, NamesLimit, CanBranch, limit_of}
use Rattle.certificate_laws.specs.Certificate.{HasGroupsWithin, TargetFits}
use Rattle.board_laws.specs.Skeleton.{Skeleton, waits, proved, split, Parts, no_part, part, groups_in, waiting}
use Rattle.board_laws.specs.Skeleton.{IsSkeleton, put, split_from}
use Rattle.board_laws.specs.Standing.{StandsAt, AreNumbered}
use Rattle.board_laws.specs.PartialTrees.{PartialTree, open_leaves, ProvesPart, IsPart, skeleton_from, as_piece}

-- what may come to a board
pub data Event : Type 0 where
  hand : (from : ℕ) → Event
  result : (number piece : ℕ) → (tree : Tree) → Event
  split_piece : (number piece county limit : ℕ) → Event
  part_piece : (number piece : ℕ) → (tree : PartialTree) → Event
  better : (number : ℕ) → (grouping : Grouping) → Event
  wider : (number : ℕ) → Event

-- what it answers
pub data Reply : Type 0 where
  Piece : (number piece : ℕ) → (state : State) → Reply
  NothingLeft : Reply
  Accepted : Reply
  Split : (first many : ℕ) → Reply
  NewRound : (number : ℕ) → Reply
  OldRound : Reply
  NoSuchPiece : Reply
  AlreadyDone : Reply
  AlreadySplit : Reply
  CantSplit : Reply
  NotAPart : Reply
  NotAProof : Reply
  NotBetter : Reply
  CantWiden : Reply
  TooManyPieces : Reply
  Budget : Reply
  Memory : Reply

-- the number of the round, the round, its proof as far as it goes, and how many pieces there are
pub record Content : Type 0 where
  pub number : ℕ
  pub round : Round
  pub skeleton : Skeleton
  pub last : ℕ

-- The skeleton with which a round begins: the states after `depth` branchings, or earlier where no county is open,
-- wait, with the numbers from one on up to the next.
abbrev mutual
  pub Opens : ℕ → Skeleton → Problem → Round → State → ℕ → ℕ → Type 0
  Opens depth (waits piece) p round s first next =
      (piece ≡ first) × (next ≡ first + 1) × ((depth ≡ 0) ⊎ ((c : ℕ) → open_to s round.limit c ≢ true))
  Opens depth (proved piece tree) p round s first next = ⊥
  Opens depth (split piece county limit parts raised) p round s first next =
      (piece ≡ None)
      × (1 ≤ depth)
      × NamesLimit round.format limit
      × CanBranch round s county (limit_of round limit)
      × AreGroupsAt p round s county (limit_of round limit) (groups_in parts)
      × ((between : ℕ) × EachOpens (depth - 1) parts p round s first between
      × Opens (depth - 1) raised p round (raise county (limit_of round limit) s) between next)

  pub EachOpens : ℕ → Parts → Problem → Round → State → ℕ → ℕ → Type 0
  EachOpens depth no_part p round s first next = next ≡ first
  EachOpens depth (part codes skeleton others) p round s first next =
      (between : ℕ) × Opens depth skeleton p round (close codes s) first between
      × EachOpens depth others p round s between next

-- a round begins: no piece has a tree or was split
pub record Begins (p : Problem) (depth : ℕ) (b : Content) : Type 0 where
  pub skeleton : Opens depth b.skeleton p b.round (empty_state p) 1 (b.last + 1)

-- the piece waits, at this state
abbrev pub Waits : Problem → Content → ℕ → State → Type 0
Waits p b n s = Contains (waiting b.skeleton) n × StandsAt b.skeleton b.round (empty_state p) n s

-- the piece is given its tree, which proves its state
pub record Fills (p : Problem) (b : Content) (n : ℕ) (tree : Tree) (c : Content) : Type 0 where
  pub state : State
  pub waits : Waits p b n state
  pub proves : Proves tree p b.round state
  pub is : c ≡ record b { skeleton = put n (proved (Some n) tree) b.skeleton }

-- The piece is split at a county of a wide round: its pieces have the next numbers, one for each group that fits, has
-- the county and has at most `limit` counties, and one for where the county is raised.
pub record Splits (p : Problem) (b : Content) (n county limit first many : ℕ) (c : Content) : Type 0 where
  pub state : State
  pub waits : Waits p b n state
  pub wide : b.round.format ≡ Wide
  pub can : CanBranch b.round state county limit
  pub some : 1 ≤ limit
  pub groups : List (List ℕ)
  pub are : AreGroupsAt p b.round state county limit groups
  pub first_is : first ≡ b.last + 1
  pub many_is : many ≡ length groups + 1
  pub is : c ≡ record b { skeleton = put n (split_from n county limit first groups) b.skeleton; last = b.last + many }

-- The piece is given a part, which proves its state but for its open leaves. Its pieces have the next numbers, one for
-- each open leaf.
pub record Parted (p : Problem) (b : Content) (n : ℕ) (tree : PartialTree) (first many : ℕ) (c : Content) : Type 0 where
  pub state : State
  pub waits : Waits p b n state
  pub is_part : IsPart tree
  pub proves : ProvesPart tree p b.round state
  pub next : first ≡ b.last + 1
  pub many_is : many ≡ open_leaves tree
  pub is : c ≡ record b { skeleton = put n (as_piece n (skeleton_from first tree)) b.skeleton; last = b.last + many }

-- the next round begins
pub record Renews (p : Problem) (depth : ℕ) (b : Content) (round : Round) (number : ℕ) (c : Content) : Type 0 where
  pub number_is : number ≡ b.number + 1
  pub counted : c.number ≡ number
  pub round_is : c.round ≡ round
  pub begins : Begins p depth c

-- a lawful grouping that is greater than the target, and has no group above the limit
pub record Improves (p : Problem) (round : Round) (g : Grouping) : Type 0 where
  pub lawful : Lawful p g
  pub small : HasGroupsWithin round.limit g
  pub greater : (t : Grouping) × (round.target ≡ Some t) × IsGreater (counts (sets_of g)) (counts (sets_of t))

-- a result that is accepted is one of this round, and fills its piece
abbrev pub GivesTree : Problem → Content → Event → Content → Type 0
GivesTree p b (result number n tree) c = (number ≡ b.number) × Fills p b n tree c
GivesTree p b event c = ⊥

-- a split is one of this round, and so is a part
abbrev pub GivesPieces : Problem → Content → Event → ℕ → ℕ → Content → Type 0
GivesPieces p b (split_piece number n county limit) first many c =
    (number ≡ b.number) × Splits p b n county limit first many c
GivesPieces p b (part_piece number n tree) first many c = (number ≡ b.number) × Parted p b n tree first many c
GivesPieces p b event first many c = ⊥

-- a new round has a better target, or a limit that is one greater; both come of this round
abbrev pub GivesRound : Problem → ℕ → Content → Event → ℕ → Content → Type 0
GivesRound p depth b (better number g) next c =
    (number ≡ b.number) × Improves p b.round g × Renews p depth b (record (b.round) { target = Some g }) next c
GivesRound p depth b (wider number) next c =
    (number ≡ b.number) × (b.round.limit < length p.counties)
    × Renews p depth b (record (b.round) { limit = b.round.limit + 1 }) next c
GivesRound p depth b event next c = ⊥

-- What an event does to the board that answers it so: only Accepted, Split and NewRound change it.
abbrev pub Leads : Problem → ℕ → Content → Event → Reply → Content → Type 0
Leads p depth b event Accepted c = GivesTree p b event c
Leads p depth b event (Split first many) c = GivesPieces p b event first many c
Leads p depth b event (NewRound next) c = GivesRound p depth b event next c
Leads p depth b event reply c = c ≡ b

-- an event with its reply
pub record EventAndReply : Type 0 where
  pub event : Event
  pub reply : Reply

-- the board after a list of events, in the order in which they came
abbrev pub LeadsOver : Problem → ℕ → Content → List EventAndReply → Content → Type 0
LeadsOver p depth b [] c = c ≡ b
LeadsOver p depth b (first ∷ more) c =
    (between : Content) × Leads p depth b first.event first.reply between × LeadsOver p depth between more c

-- What holds of the content of a board at every moment. A round names the tolerance that a certificate for the problem
-- names.
pub record IsContent (p : Problem) (b : Content) : Type 0 where
  pub tolerance : b.round.tolerance ≡ named_tolerance p
  pub order : IsOrder p b.round.order
  pub target : Grouping
  pub target_is : b.round.target ≡ Some target
  pub fits : TargetFits p b.round.limit b.round.target
  pub skeleton : IsSkeleton b.skeleton p b.round (empty_state p)
  pub numbered : AreNumbered b.skeleton b.last
