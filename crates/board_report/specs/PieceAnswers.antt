-- What a solver answers of a piece of a board that has taken events.
use Rattle.std.specs.Prelude.{ℕ, Bool, List, length, Contains, Option, Some, None}
use Rattle.grouping_laws.specs.Problem.{Problem}
use Rattle.county_problem.specs.ProblemValue.{problem_of}
use Rattle.certificate_data.specs.Round.{Round}
use Rattle.certificate_laws.specs.State.{State, empty_state}
use Rattle.state_groups.specs.declared.state.State.{State as StateHeld}
use Rattle.state_groups.specs.PlacedValues.{state_at, IsPlaced}
use Rattle.board_laws.specs.Skeleton.{waiting}
use Rattle.board_laws.specs.Standing.{StandsAt}
use Rattle.board_laws.specs.Content.{Content, Event, Reply}
use Rattle.share_board.specs.declared.board.Board.{Board}
use Rattle.branch_bound.specs.Pieces.{IsPieceAnswer}
use Rattle.branch_bound.specs.declared.piece_answer.PieceAnswer.{PieceAnswer}
use Rattle.board_report.specs.Taking.{EventsAreTaken, NoneRefused}

-- how much an event may cost on such a board
abbrev pub piece_budget : ℕ
piece_budget = 10000000

-- the state at which the piece stands, by places of the board's order, exactly where it waits
abbrev pub IsStateHeld : {C : Type 0} → (C → ℕ → Bool) → Board C → Content → ℕ → Option (StateHeld C) → Type 0
IsStateHeld test board b number None = ¬ Contains (waiting b.skeleton) number
IsStateHeld test board b number (Some state) =
    Contains (waiting b.skeleton) number
    × IsPlaced (length board.round.order) test state
    × StandsAt b.skeleton b.round (empty_state (problem_of board.problem)) number
    (state_at board.round.order test state)

-- an answer to the piece at its state, exactly where it waits
abbrev pub IsAnswerAt : Problem → Content → ℕ → Option PieceAnswer → Type 0
IsAnswerAt p b number None = ¬ Contains (waiting b.skeleton) number
IsAnswerAt p b number (Some answer) =
    Contains (waiting b.skeleton) number
    × ((s : State) × StandsAt b.skeleton b.round (empty_state p) number s × IsPieceAnswer p b.round s answer)

-- an answer to the piece of a board that has taken all events
pub record IsAnswered (p : Problem) (depth : ℕ) (round : Round) (events : List Event) (number : ℕ)
    (answer : Option PieceAnswer) : Type 0 where
  pub replies : List Reply
  pub last : Content
  pub taken : EventsAreTaken p depth piece_budget round events replies last
  pub none_refused : NoneRefused replies
  pub answer_is : IsAnswerAt p last number answer
