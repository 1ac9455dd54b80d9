-- The steps of `share`: the problem is built, the grouping and the events are read, a board takes the events, and the
-- certificate that it joins is stored.
use Rattle.std.specs.Prelude.{ℕ, zero, suc, List, length, Option, option_map}
use Rattle.grouping_laws.specs.Grouping.{Grouping}
use Rattle.county_problem.specs.ProblemValue.{ProblemValue, problem_of}
use Rattle.board_laws.specs.Content.{Event}
use Rattle.board_report.specs.BoardOutcome.{IsShared}
use Rattle.board_report.specs.declared.board_outcome.Shared.{Shared}
use Rattle.cli_words.specs.declared.words.ShareWords.{ShareWords}
use Rattle.cli_file_stores.specs.Files.{NamedFile, Files}
use Rattle.cli_file_stores.specs.History.{History}
use Rattle.cli_answers.specs.Answer.{Answered}
use Rattle.cli_answers.specs.Refusals.{board_answer}
use Rattle.run_laws.specs.Steps.{Steps, ◌>>=◌, call_step}
use Rattle.run_laws.specs.ProblemSteps.{problem_steps, grouping_of}
use Rattle.run_laws.specs.BoardSteps.{format_of, depth_of, events_of, AnswersOnBoard}
use Rattle.run_laws.specs.Storing.{EndsStoring, named_file}

-- the exit status: 0 where no piece waits, else 3
abbrev pub left_status : ℕ → ℕ
left_status zero = 0
left_status (suc n) = 3

-- what `share` says
abbrev pub share_answer : Shared → Answered
share_answer s = record { text = s.text.items; status = left_status s.left }

-- the step in which a board takes the events
abbrev pub share_step : ProblemValue → Grouping → ShareWords → List Event → Steps Shared
share_step v g words events =
    call_step board_answer
    (AnswersOnBoard v g words.board.round words.budget
    (λ round. IsShared (problem_of v) (depth_of words.board.round) words.budget round events))

-- `share`: all files are read before the board is opened
abbrev pub share_steps : Option Files → ShareWords → Steps Shared
share_steps files words =
    problem_steps files words.board.problem >>= λ v. grouping_of files words.board.grouping.now >>= λ g.
    events_of files (format_of words.board.round) (length v.counties) words.events.now >>= share_step v g words

-- the file that is stored: the certificate that was joined
abbrev pub joined_file : ShareWords → Shared → List NamedFile
joined_file words s = named_file words.certificate (option_map (λ t. t.items) s.certificate)

-- `share` ends: at a fault that it met before anything was stored, or with its file stored and its answer, unless the
-- file was refused
abbrev pub ShareEnds : Option Files → ShareWords → History → History → List NamedFile → Answered → Type 0
ShareEnds files words = EndsStoring (share_steps files words) (joined_file words) share_answer
