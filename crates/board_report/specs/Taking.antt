-- Events that come to a board in turn.
use Rattle.std.specs.Prelude.{ℕ, ◌≡◌, ◌≢◌, List, [], ◌∷◌, ◌++◌, Bool}
use Rattle.std.specs.List.{AllByRecursion, flat_map}
use Rattle.grouping_laws.specs.Problem.{Problem}
use Rattle.county_problem.specs.ProblemValue.{problem_of}
use Rattle.certificate_data.specs.Round.{Round}
use Rattle.board_laws.specs.Content.{Content, Event, Reply, Memory, Leads}
use Rattle.share_board.specs.declared.board.Board.{Board}
use Rattle.share_board.specs.BoardValue.{IsOf}
use Rattle.share_board.specs.Replies.{IsReply}
use Rattle.share_board.specs.Rounds.{IsOpening}
use Rattle.board_report.specs.ReplyLines.{reply_line}

-- each reply is the first that applies, and leads on
abbrev pub TakesEvents : Problem → (depth budget : ℕ) → Content → List Event → List Reply → Content → Type 0
TakesEvents p depth budget b [] [] last = last ≡ b
TakesEvents p depth budget b (event ∷ events) (reply ∷ replies) last =
    IsReply p depth budget b event reply
    × ((next : Content) × Leads p depth b event reply next × TakesEvents p depth budget next events replies last)
TakesEvents p depth budget b events replies last = ⊥

-- a board after events, from its first round on
pub record EventsAreTaken (p : Problem) (depth budget : ℕ) (round : Round) (events : List Event) (replies : List Reply)
    (last : Content) : Type 0 where
  pub first : Content
  pub opening : IsOpening p depth round first
  pub takes : TakesEvents p depth budget first events replies last

-- memory was refused to no event
abbrev pub NoneRefused : List Reply → Type 0
NoneRefused replies = AllByRecursion (λ reply. reply ≢ Memory) replies

-- a board stands for the content after events
pub record HasTaken {C : Type 0} (test : C → ℕ → Bool) (before : Board C) (b : Content) (events : List Event)
    (board : Board C) : Type 0 where
  pub replies : List Reply
  pub last : Content
  pub takes : TakesEvents (problem_of before.problem) before.depth before.budget b events replies last
  pub is : IsOf test board last

-- a board stands for the content after events, and a text has the line of each reply behind the bytes that it had
abbrev pub HasTold : {C : Type 0} → (C → ℕ → Bool) → Board C → Content → List Event → Board C → List ℕ → List ℕ → Type 0
HasTold test before b events board old new =
    (taken : HasTaken test before b events board) × (new ≡ old ++ flat_map reply_line taken.replies)

-- a board stands for the content after events, and memory was refused to none of them
abbrev pub HasHeard : {C : Type 0} → (C → ℕ → Bool) → Board C → Content → List Event → Board C → Type 0
HasHeard test before b events board = (taken : HasTaken test before b events board) × NoneRefused taken.replies
