-- The steps of `piece`: the problem is built, the grouping and the events are read, a board takes the events, and a
-- solver proves one of the pieces that wait.
use Rattle.std.specs.Prelude.{◌≡◌, ℕ, List, length, Option, Some, None, codes}
use Rattle.grouping_laws.specs.Grouping.{Grouping}
use Rattle.county_problem.specs.ProblemValue.{ProblemValue, problem_of}
use Rattle.board_laws.specs.Content.{Event}
use Rattle.branch_bound.specs.declared.piece_answer.PieceAnswer.{PieceAnswer}
use Rattle.branch_bound.specs.declared.piece_answer.PieceAnswer.TheVariants.{Proved, Better, Wider, Open}
use Rattle.board_report.specs.PieceAnswers.{IsAnswered, piece_budget}
use Rattle.board_report.specs.PieceText.{piece_text_of}
use Rattle.cli_words.specs.declared.words.PieceWords.{PieceWords}
use Rattle.cli_file_stores.specs.Files.{Files}
use Rattle.cli_answers.specs.Answer.{Answered}
use Rattle.cli_answers.specs.Refusals.{board_answer}
use Rattle.run_laws.specs.Steps.{Steps, ◌>>=◌, call_step, value_step}
use Rattle.run_laws.specs.ProblemSteps.{problem_steps, grouping_of}
use Rattle.run_laws.specs.BoardSteps.{format_of, depth_of, named_events_of, AnswersOnBoard}

-- the answer where no piece of the number waits
abbrev pub no_such_piece : Answered
no_such_piece = record { text = codes "no such piece\n"; status = 4 }

-- the exit status: 3 where the steps ran out
abbrev pub piece_status : PieceAnswer → ℕ
piece_status (Proved tree) = 0
piece_status (Better g) = 0
piece_status (Wider g) = 0
piece_status (Open part) = 3

-- What is said of the piece of a number: what a solver answers to it, with the round of the words, or that there is
-- none.
abbrev pub piece_said : ℕ → ℕ → Option PieceAnswer → Answered
piece_said round number None = no_such_piece
piece_said round number (Some answer) = record { text = piece_text_of round number answer; status = piece_status answer }

-- the step in which a solver proves a piece
abbrev pub piece_step : ProblemValue → Grouping → PieceWords → List Event → Steps (Option PieceAnswer)
piece_step v g words events =
    call_step board_answer
    (AnswersOnBoard v g words.board.round piece_budget
    (λ round. IsAnswered (problem_of v) (depth_of words.board.round) round events words.number))

-- the step in which a solver proves a piece, and what is said of the piece
abbrev pub said_step : ProblemValue → Grouping → PieceWords → List Event → Steps Answered
said_step v g words events =
    piece_step v g words events >>= λ answer. value_step (λ a. a ≡ piece_said words.round words.number answer)

-- `piece`: all files are read before the board is opened
abbrev pub piece_steps : Option Files → PieceWords → Steps Answered
piece_steps files words =
    problem_steps files words.board.problem >>= λ v. grouping_of files words.board.grouping.now >>= λ g.
    named_events_of files (format_of words.board.round) (length v.counties) words.events >>= said_step v g words
