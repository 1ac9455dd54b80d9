-- Laws of proofs in pieces and of what a board holds.
use Rattle.std.specs.Prelude.{ℕ, ◌+◌, ◌≡◌, ◌≢◌, List, [], Contains, Option, Some, None, ◌⊎◌, ◌↔◌}
use Rattle.grouping_laws.specs.Problem.{Problem}
use Rattle.grouping_laws.specs.Grouping.{Grouping, counts, sets_of, IsGreater, IsBest}
use Rattle.grouping_laws.specs.Tolerance.{named_tolerance}
use Rattle.grouping_laws.specs.GroupsFrom.{IsOrder}
use Rattle.certificate_data.specs.Round.{Round}
use Rattle.certificate_laws.specs.State.{State, IsState, empty_state}
use Rattle.certificate_data.specs.Tree.{Tree}
use Rattle.certificate_laws.specs.Proving.{Proves}
use Rattle.certificate_laws.specs.Certificate.{IsCertificate, TargetFits}
use Rattle.board_laws.specs.Skeleton.{Skeleton, pieces, waiting, HasTree, WasSplit, joined, IsSkeleton, bare}
use Rattle.board_laws.specs.Standing.{StandsAt, AreNumbered, Held, Holds}
use Rattle.board_laws.specs.PartialTrees.{PartialTree, ProvesPart, open_branch}
use Rattle.board_laws.specs.Content.{Content, Event, result, split_piece, part_piece, Reply, IsContent, Begins}
use Rattle.board_laws.specs.Content.{Splits, Parted, Leads, LeadsOver}
use Rattle.board_laws.specs.Content.{EventAndReply}

-- A skeleton in which no piece waits is a proof tree, and only then is there one to be joined.
pub record SkeletonsJoin : Type 0 where
  pub proves : (skeleton : Skeleton) (p : Problem) (round : Round) (s : State) (tree : Tree)
      → IsSkeleton skeleton p round s → joined skeleton ≡ Some tree → Proves tree p round s
  pub whole : (skeleton : Skeleton) → waiting skeleton ≡ [] → (tree : Tree) × (joined skeleton ≡ Some tree)
  pub waits : (skeleton : Skeleton) (n : ℕ) → Contains (waiting skeleton) n → joined skeleton ≡ None

-- The number of a piece names one state.
pub record PiecesStand : Type 0 where
  -- a piece stands at some state, and nothing but a piece stands
  pub there : (skeleton : Skeleton) (round : Round) (s : State) (n : ℕ) → Contains (pieces skeleton) n
      → (t : State) × StandsAt skeleton round s n t
  pub only : (skeleton : Skeleton) (round : Round) (s : State) (n : ℕ) (t : State) → StandsAt skeleton round s n t
      → Contains (pieces skeleton) n
  -- a piece stands at one state alone, where no number stands twice
  pub one : (skeleton : Skeleton) (last : ℕ) (round : Round) (s : State) (n : ℕ) (t u : State)
      → AreNumbered skeleton last → StandsAt skeleton round s n t → StandsAt skeleton round s n u → t ≡ u
  -- the state at which a piece stands is a state of the round
  pub state : (skeleton : Skeleton) (p : Problem) (round : Round) (s : State) (n : ℕ) (t : State) → IsState p round s
      → IsSkeleton skeleton p round s → StandsAt skeleton round s n t → IsState p round t

-- the later target has greater counts
abbrev pub TargetGrew : Option Grouping → Option Grouping → Type 0
TargetGrew None later = ⊥
TargetGrew (Some t) None = ⊥
TargetGrew (Some t) (Some u) = IsGreater (counts (sets_of u)) (counts (sets_of t))

-- The content of a board at every moment, and what it is good for.
pub record BoardsKeep : Type 0 where
  -- a round that begins with a target that fits has the content of a board, and each event leads to the content of a
  -- board
  pub begins : (p : Problem) (depth : ℕ) (b : Content) (target : Grouping) → b.round.tolerance ≡ named_tolerance p
      → IsOrder p b.round.order → b.round.target ≡ Some target → TargetFits p b.round.limit b.round.target
      → Begins p depth b → IsContent p b
  pub leads : (p : Problem) (depth : ℕ) (b c : Content) (event : Event) (reply : Reply) → IsContent p b
      → Leads p depth b event reply c → IsContent p c
  pub over : (p : Problem) (depth : ℕ) (b c : Content) (log : List EventAndReply) → IsContent p b
      → LeadsOver p depth b log c → IsContent p c
  -- if no piece waits, the tree to which the pieces join is a certificate, and the target is best
  pub certifies : (p : Problem) (b : Content) (tree : Tree) → IsContent p b → joined b.skeleton ≡ Some tree
      → IsCertificate p b.round tree
  pub best : (p : Problem) (b : Content) (tree : Tree) (target : Grouping) → IsContent p b
      → joined b.skeleton ≡ Some tree → b.round.target ≡ Some target → IsBest p target
  -- all events leave the order and the format; the target never becomes lesser
  pub order : (p : Problem) (depth : ℕ) (b c : Content) (log : List EventAndReply) → LeadsOver p depth b log c
      → (c.round.order ≡ b.round.order) × (c.round.format ≡ b.round.format)
  pub target : (p : Problem) (depth : ℕ) (b c : Content) (log : List EventAndReply) → LeadsOver p depth b log c
      → (c.round.target ≡ b.round.target) ⊎ TargetGrew b.round.target c.round.target
  -- until a new round a piece keeps its tree, and stays split as it was split; each stands where it stood
  pub trees : (p : Problem) (depth : ℕ) (b c : Content) (event : Event) (reply : Reply) (n : ℕ) (tree : Tree)
      → Leads p depth b event reply c → c.number ≡ b.number → HasTree b.skeleton n tree → HasTree c.skeleton n tree
  pub splits : (p : Problem) (depth : ℕ) (b c : Content) (event : Event) (reply : Reply) (n at : ℕ) (most : Option ℕ)
      → Leads p depth b event reply c → c.number ≡ b.number → WasSplit b.skeleton n at most
      → WasSplit c.skeleton n at most
  pub stands : (p : Problem) (depth : ℕ) (b c : Content) (event : Event) (reply : Reply) (n : ℕ) (s : State)
      → Leads p depth b event reply c → c.number ≡ b.number
      → StandsAt b.skeleton b.round (empty_state p) n s → StandsAt c.skeleton c.round (empty_state p) n s
  -- the number of the round never falls, and so an old one never comes again
  pub number : (p : Problem) (depth : ℕ) (b c : Content) (event : Event) (reply : Reply) → Leads p depth b event reply c
      → (c.number ≡ b.number) ⊎ (c.number ≡ b.number + 1)
  -- the content after a part is the content of a board, and what a split does, the part does that is one branch with
  -- open leaves alone
  pub parted : (p : Problem) (b c : Content) (n : ℕ) (tree : PartialTree) (first many : ℕ) → IsContent p b
      → Parted p b n tree first many c → IsContent p c
  pub split_is_part : (p : Problem) (b c : Content) (n county limit first many : ℕ)
      → Splits p b n county limit first many c
      → (groups : List (List ℕ)) × Parted p b n (open_branch county limit groups) first many c
  -- an event of another round, of a number that is none, or of a piece that has its tree or was split, and a tree that
  -- doesn't prove, change nothing
  pub old_result : (p : Problem) (depth : ℕ) (b c : Content) (number n : ℕ) (tree : Tree) (reply : Reply)
      → number ≢ b.number → Leads p depth b (result number n tree) reply c → c ≡ b
  pub old_split : (p : Problem) (depth : ℕ) (b c : Content) (number n county limit : ℕ) (reply : Reply)
      → number ≢ b.number → Leads p depth b (split_piece number n county limit) reply c → c ≡ b
  pub late_result : (p : Problem) (depth : ℕ) (b c : Content) (number n : ℕ) (tree : Tree) (reply : Reply)
      → (¬ Contains (waiting b.skeleton) n) → Leads p depth b (result number n tree) reply c → c ≡ b
  pub late_split : (p : Problem) (depth : ℕ) (b c : Content) (number n county limit : ℕ) (reply : Reply)
      → (¬ Contains (waiting b.skeleton) n) → Leads p depth b (split_piece number n county limit) reply c → c ≡ b
  pub old_part : (p : Problem) (depth : ℕ) (b c : Content) (number n : ℕ) (tree : PartialTree) (reply : Reply)
      → number ≢ b.number → Leads p depth b (part_piece number n tree) reply c → c ≡ b
  pub late_part : (p : Problem) (depth : ℕ) (b c : Content) (number n : ℕ) (tree : PartialTree) (reply : Reply)
      → (¬ Contains (waiting b.skeleton) n) → Leads p depth b (part_piece number n tree) reply c → c ≡ b
  pub false_part : (p : Problem) (depth : ℕ) (b c : Content) (number n : ℕ) (tree : PartialTree) (reply : Reply)
      (s : State)
      → IsContent p b → StandsAt b.skeleton b.round (empty_state p) n s → (¬ ProvesPart tree p b.round s)
      → Leads p depth b (part_piece number n tree) reply c → c ≡ b
  pub false_result : (p : Problem) (depth : ℕ) (b c : Content) (number n : ℕ) (tree : Tree) (reply : Reply) (s : State)
      → IsContent p b → StandsAt b.skeleton b.round (empty_state p) n s → (¬ Proves tree p b.round s)
      → Leads p depth b (result number n tree) reply c → c ≡ b

-- Where two boards hold the same splits and trees, each at the same states, they are the same but for their numbers,
-- and join to the same tree: it is no matter in which order events came, and which numbers the pieces got.
pub record SameIsJoined : Type 0 where
  pub by_form : (a b : Skeleton) → bare a ≡ bare b → joined a ≡ joined b
  pub form : (p : Problem) (round : Round) (s : State) (a b : Skeleton) → IsState p round s → IsSkeleton a p round s
      → IsSkeleton b p round s
      → ((t : State) (held : Held) → Holds a round s t held ↔ Holds b round s t held) → bare a ≡ bare b
  pub boards : (p : Problem) (b c : Content) → IsContent p b → IsContent p c → b.round ≡ c.round
      → ((t : State) (held : Held) → Holds b.skeleton b.round (empty_state p) t held
      ↔ Holds c.skeleton c.round (empty_state p) t held)
      → joined b.skeleton ≡ joined c.skeleton
